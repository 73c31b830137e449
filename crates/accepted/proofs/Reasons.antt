-- A FAULT'S REASON IS 1 TO 13: those of the walk are 1 to 7 and 13, and a list's own is what the table says.
use mathlib.Core.Path.{◌≡◌, refl}
use mathlib.Core.List.{flat_map}
use Prim.Native.Nat.{ℕ, ◌≤◌}
use mathlib.Core.Bool.{Bool, true}
use lib.Dec.{leb}
use native.Mathlib.Omega.{arith}
use borrow.Author.Tests.{le-leb, leb-true}
use Rattle.text.specs.Bytes.{Text, every, same}
use Rattle.text.specs.Ranges.{◌to◌, is_within}
use Rattle.text.proofs.Tests.{both, within_low, within-high}
use Rattle.profile.specs.Table.{Table, Leaf}
use Rattle.profile.specs.Order.{reason_fits}
use Rattle.profile.specs.Noted.{noted}
use Rattle.profile.specs.Fields.{rows}
use Rattle.profile.specs.Profile.{profile01}
use Rattle.checks.specs.Place.{Place}
use Rattle.checks.specs.Fault.{fault, verdict}
use Rattle.accepted.proofs.EachCheck.{table_passes, verdict-all}

abbrev is_reason : ℕ → Bool
is_reason n = is_within (1 to 13) n

of_list : (n : ℕ) → is_within (1 to 12) n ≡ true → is_reason n ≡ true
of_list n e = rw (le-leb 1 n (within_low 1 12 n e), le-leb n 13 (omega (arith, within-high 1 12 n e)))

-- a table whose lists have reasons from 1 to 12
abbrev any_field : ℕ → Bool
any_field f = true

abbrev leaf_fits : Leaf → Bool
leaf_fits l = reason_fits l.list

abbrev pub reasons_fit : Table → Bool
reasons_fit T = table_passes any_field leaf_fits T

-- by any such table
pub fault-reason : (T : Table) → reasons_fit T ≡ true → (m : Text) (p : Place) (n : ℕ) → verdict T m ≡ fault p n → (1 ≤ n) × (n ≤ 13)
fault-reason T ok m p n e =
    let v =
    verdict-all any_field leaf_fits (λ x. Unit) (λ p n. is_reason n ≡ true) T ok
    (record {
      out_of_place_lem = λ x o h. refl;
      end = λ x o h. refl;
      missing = λ x o f h g. refl;
      surplus = λ x o f r h g. refl;
      leaf = λ x o f r l h g fits. (refl, (refl, (refl, (refl, (refl, tt)))));
      list = λ x o f r l h g fits codes why is. of_list why (rw is at fits);
    })
    tt (λ s. tt) m in
    let w = both (leb 1 n) (leb n 13) (rw e at v) in
    (leb-true 1 n w.0, leb-true n 13 w.1)

-- 01's table is one
profile_reasons : reasons_fit profile01 ≡ true
unfolding flat_map same table_passes every profile01 noted rows
profile_reasons = refl

pub fault_reason01 : (m : Text) (p : Place) (n : ℕ) → verdict profile01 m ≡ fault p n → (1 ≤ n) × (n ≤ 13)
fault_reason01 = fault-reason profile01 profile_reasons
