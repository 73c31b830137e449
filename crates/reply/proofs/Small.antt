-- By a table of small numbers the place of a fault is small: its name has at most three bytes, and its numbers but for those that the message
-- counts, occurrence and repetition, are below 1,000.
use mathlib.Core.Path.{◌≡◌, refl}
use mathlib.Core.List.{flat_map}
use Prim.Native.Nat.{ℕ, suc, ◌≤◌, ◌<◌}
use native.Mathlib.Omega.{arith}
use mathlib.Core.Bool.{Bool, true, ◌&&◌}
use lib.ListN.{length, length-take}
use lib.Dec.{ltb}
use borrow.Author.Tests.{ltb-true}
use Rattle.text.specs.Bytes.{Text, every, same}
use Rattle.text.proofs.Tests.{both}
use Rattle.profile.specs.Table.{Table, Leaf}
use Rattle.profile.specs.Noted.{noted}
use Rattle.profile.specs.Fields.{rows}
use Rattle.profile.specs.Profile.{profile01}
use Rattle.reader.specs.Place.{Place, place}
use Rattle.reader.specs.Fault.{Verdict, verdict}
use Rattle.reader.proofs.EachCheck.{table_passes, OfFault, verdict-all}

-- a table of small numbers: those of its fields, components and subcomponents have at most three digits
abbrev small : ℕ → Bool
small n = ltb n 1000

abbrev small_leaf : Leaf → Bool
small_leaf l = small l.component && small l.subcomponent

abbrev pub small_table : Table → Bool
small_table T = table_passes small small_leaf T

pub profile_small : small_table profile01 ≡ true
unfolding flat_map same table_passes every profile01 noted rows
profile_small = refl

pub record Small (p : Place) : Type 0 where
  pub name : length p.name ≤ 3
  pub field : p.field < 1000
  pub component : p.component < 1000
  pub subcomponent : p.subcomponent < 1000

abbrev Short : Text → Type 0
Short n = length n ≤ 3

abbrev SmallFault : Place → ℕ → Type 0
SmallFault p n = Small p

abbrev pub SmallVerdict : Verdict → Type 0
SmallVerdict v = OfFault small small_leaf Short SmallFault v

-- a place that names no leaf; a leaf's place
at_field : (n : Text) (o f r : ℕ) → length n ≤ 3 → f < 1000 → Small (place n o f r 0 0)
at_field n o f r short h = record { name = short; field = h; component = omega arith; subcomponent = omega arith }

at_leaf : (n : Text) (o f r : ℕ) (l : Leaf) → length n ≤ 3 → f < 1000 → small_leaf l ≡ true → Small (place n o f r l.component l.subcomponent)
at_leaf n o f r l short h e =
    let w = both (small l.component) (small l.subcomponent) e in
    record {
      name = short;
      field = h;
      component = ltb-true l.component 1000 w.0;
      subcomponent = ltb-true l.subcomponent 1000 w.1;
    }

-- THE PLACE OF A FAULT IS SMALL
pub verdict-small : (T : Table) → small_table T ≡ true → (m : Text) → SmallVerdict (verdict T m)
verdict-small T ok m =
    verdict-all small small_leaf Short SmallFault T ok
    (record {
      out_of_place_lem = λ n o h. at_field n o 0 0 h (omega arith);
      end = λ n o h. at_field n o 0 0 h (omega arith);
      missing = λ n o f h g. at_field n (suc o) f 1 h (ltb-true f 1000 g);
      surplus = λ n o f r h g. at_field n (suc o) f (suc r) h (ltb-true f 1000 g);
      leaf = λ n o f r l h g e. let p = at_leaf n (suc o) f (suc r) l h (ltb-true f 1000 g) e in (p, (p, (p, (p, (p, tt)))));
      list = λ n o f r l h g e codes why is. at_leaf n (suc o) f (suc r) l h (ltb-true f 1000 g) e;
    })
    (omega arith) (λ s. omega (arith, length-take 3 s)) m
