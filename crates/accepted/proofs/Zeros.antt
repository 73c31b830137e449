-- THE ZEROS OF A FAULT'S PLACE ARE TRAILING: after a zero there are only zeros.
use mathlib.Core.Path.{◌≡◌, refl}
use Prim.Native.Nat.{ℕ, zero, suc}
use mathlib.Core.Bool.{Bool, true, false, ◌&&◌}
use mathlib.Core.List.{List, [], ◌∷◌, flat_map}
use Rattle.text.specs.Bytes.{Text, every, same}
use Rattle.text.proofs.Tests.{both}
use Rattle.profile.specs.Table.{Table, Leaf}
use Rattle.profile.specs.Noted.{noted}
use Rattle.profile.specs.Fields.{rows}
use Rattle.profile.specs.Profile.{profile01}
use Rattle.checks.specs.Place.{Place}
use Rattle.checks.specs.Fault.{fault, verdict}
use Rattle.accepted.proofs.EachCheck.{table_passes, verdict-all}

unfoldable pub all_zeros : List ℕ → Bool
all_zeros [] = true
all_zeros (zero ∷ ns) = all_zeros ns
all_zeros (suc n ∷ ns) = false

unfoldable pub zeros_trail : List ℕ → Bool
zeros_trail [] = true
zeros_trail (zero ∷ ns) = all_zeros ns
zeros_trail (suc n ∷ ns) = zeros_trail ns

abbrev pub numbers_of : Place → List ℕ
numbers_of p = p.occurrence ∷ p.field ∷ p.repetition ∷ p.component ∷ p.subcomponent ∷ []

-- a table whose fields, components and subcomponents are from 1
abbrev above : ℕ → Bool
above zero = false
above (suc n) = true

abbrev leaf_above : Leaf → Bool
leaf_above l = above l.component && above l.subcomponent

abbrev pub from_one : Table → Bool
from_one T = table_passes above leaf_above T

abbrev Trail : List ℕ → Type 0
Trail ns = zeros_trail ns ≡ true

at-segment : (o : ℕ) → Trail (o ∷ 0 ∷ 0 ∷ 0 ∷ 0 ∷ [])
unfolding zeros_trail all_zeros
at-segment zero = refl
at-segment (suc o) = refl

at_field : (o f r : ℕ) → above f ≡ true → Trail (suc o ∷ f ∷ suc r ∷ 0 ∷ 0 ∷ [])
unfolding zeros_trail all_zeros
at_field o zero r h = h
at_field o (suc f) r h = refl

at_leaf : (o f r c b : ℕ) → above f ≡ true → above c ≡ true → above b ≡ true → Trail (suc o ∷ f ∷ suc r ∷ c ∷ b ∷ [])
unfolding zeros_trail all_zeros
at_leaf o zero r c b h i j = h
at_leaf o (suc f) r zero zero h i j = refl
at_leaf o (suc f) r zero (suc b) h i j = i
at_leaf o (suc f) r (suc c) zero h i j = refl
at_leaf o (suc f) r (suc c) (suc b) h i j = refl

-- by any such table
pub fault-zeros : (T : Table) → from_one T ≡ true → (m : Text) (p : Place) (n : ℕ) → verdict T m ≡ fault p n → zeros_trail (numbers_of p) ≡ true
fault-zeros T ok m p n e =
    let v =
    verdict-all above leaf_above (λ x. Unit) (λ p n. Trail (numbers_of p)) T ok
    (record {
      out_of_place_lem = λ x o h. at-segment o;
      end = λ x o h. at-segment o;
      missing = λ x o f h g. at_field o f 0 g;
      surplus = λ x o f r h g. at_field o f r g;
      leaf = λ x o f r l h g fits.
          let w = both (above l.component) (above l.subcomponent) fits in
          let t = at_leaf o f r l.component l.subcomponent g w.0 w.1 in
          (t, (t, (t, (t, (t, tt)))));
      list = λ x o f r l h g fits codes why is.
          let w = both (above l.component) (above l.subcomponent) fits in
          at_leaf o f r l.component l.subcomponent g w.0 w.1;
    })
    tt (λ s. tt) m in
    rw e at v

-- 01's table is one
profile_from_one : from_one profile01 ≡ true
unfolding flat_map same table_passes every profile01 noted rows
profile_from_one = refl

pub fault_zeros01 : (m : Text) (p : Place) (n : ℕ) → verdict profile01 m ≡ fault p n → zeros_trail (numbers_of p) ≡ true
fault_zeros01 = fault-zeros profile01 profile_from_one
