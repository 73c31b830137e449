-- Whether a field is required, by its usage.
use mathlib.Core.Path.{◌≡◌, refl}
use Prim.Native.Nat.{ℕ, zero, suc, ◌-◌, ◌≤◌, ◌<◌}
use native.Mathlib.Omega.{arith}
use mathlib.Core.Bool.{Bool}
use mathlib.Core.List.{List}
use lib.Dec.{eqb}
use Rattle.profile.specs.Table.{C}
use Rattle.profile.specs.Numbers.{usage_of}
use Rattle.checks.specs.View.{Field}
use Rattle.checks.specs.Fault.{is_required}

-- optional and required ones, and those that another field makes so
pub usage-plain : (u : ℕ) (vs : List Field) → u < 2 → eqb u 1 ≡ is_required (usage_of u) vs
usage-plain zero vs l = refl
usage-plain (suc zero) vs l = refl
usage-plain (suc (suc f)) vs l = absurd (omega arith)

pub usage-other : (u : ℕ) (vs : List Field) (r : Bool) → 2 ≤ u → r ≡ is_required (C (u - 2)) vs → r ≡ is_required (usage_of u) vs
usage-other zero vs r l e = absurd (omega arith)
usage-other (suc zero) vs r l e = absurd (omega arith)
usage-other (suc (suc f)) vs r l e =
    let z : suc (suc f) - 2 ≡ f = omega arith in
    rw z at e
