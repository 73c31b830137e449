-- What 01's sentences say of the same thing agrees: the types with leaves are those that OBX-2 may name, and each limit of its own and each list has its
-- place among the rows.
use mathlib.Core.Path.{◌≡◌, refl}
use Prim.Native.Nat.{ℕ}
use mathlib.Core.Bool.{true}
use mathlib.Core.List.{map, flat_map}
use Rattle.text.specs.Bytes.{every, some, same}
use Rattle.profile.specs.Table.{Codes, TypeLeaves}
use Rattle.profile.specs.Noted.{Noted, noted}
use Rattle.profile.specs.Limits.{own_limits}
use Rattle.profile.specs.Lists.{value-types, lists}
use Rattle.profile.specs.Fields.{rows}
use Rattle.profile.specs.Profile.{types, profile01}
use Rattle.profile.specs.Fit.{has_row}

pub types-are-named : map (λ (t : TypeLeaves). t.type) types ≡ value-types
types-are-named = refl

pub limits_are_listed : every (λ (x : Noted ℕ). has_row profile01 x.segment x.field x.component) own_limits ≡ true
unfolding flat_map every some same noted rows profile01
limits_are_listed = refl

pub lists-are-listed : every (λ (x : Noted Codes). has_row profile01 x.segment x.field x.component) lists ≡ true
unfolding flat_map every some same noted rows profile01
lists-are-listed = refl
