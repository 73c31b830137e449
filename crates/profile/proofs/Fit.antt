-- 01's table is fit for demand 3; and what a table must keep for that, by small tables that keep all but one of it.
use Prim.Native.Nat.{ℕ}
use mathlib.Core.Path.{◌≡◌, refl}
use mathlib.Core.Bool.{true, false}
use mathlib.Core.List.{List, [], ◌∷◌, flat_map}
use Rattle.text.specs.Bytes.{bytes, every, some, same}
use Rattle.profile.specs.Table.{ST, Listed, leaf, named_by_field, O, Row, Table}
use Rattle.profile.specs.Leaves.{component}
use Rattle.profile.specs.Noted.{noted}
use Rattle.profile.specs.Fields.{rows}
use Rattle.profile.specs.Profile.{profile01}
use Rattle.profile.specs.Fit.{fit, has_copies}

pub profile_fit : fit profile01 ≡ true
unfolding flat_map fit every some same profile01 noted rows
profile_fit = refl

pub profile_copies : has_copies profile01 ≡ true
unfolding flat_map has_copies every some same profile01 noted rows
profile_copies = refl

-- a table of one segment
abbrev of_rows : List Row → Table
of_rows rs = record { rows = rs; types = []; otherwise = []; succession = []; ends = [] }

abbrev row_of : ℕ → ℕ → Listed → Row
row_of f n l = record { segment = bytes "OBX"; field = f; usage = O; repetitions = n; lists = l }

abbrev first_leaf : Listed
first_leaf = leaf (component 1 ST)

abbrev second-leaf : Listed
second-leaf = leaf (component 2 ST)

-- a field may repeat, so its number is from 1
once : fit (of_rows (row_of 2 1 first_leaf ∷ [])) ≡ true
unfolding fit every
once = refl

never : fit (of_rows (row_of 2 0 first_leaf ∷ [])) ≡ false
unfolding fit every
never = refl

-- field 5 is of the type that field 2 names: the first leaf of field 2 has a row
named : fit (of_rows (row_of 2 1 first_leaf ∷ row_of 5 1 (named_by_field 2) ∷ [])) ≡ true
unfolding fit every some same
named = refl

named_by_none : fit (of_rows (row_of 3 1 first_leaf ∷ row_of 5 1 (named_by_field 2) ∷ [])) ≡ false
unfolding fit every some same
named_by_none = refl

named_by_second : fit (of_rows (row_of 2 1 second-leaf ∷ row_of 5 1 (named_by_field 2) ∷ [])) ≡ false
unfolding fit every some same
named_by_second = refl

-- a table that lists none of the leaves that replies and slips copy
copies-none : has_copies (of_rows (row_of 2 1 first_leaf ∷ [])) ≡ false
unfolding has_copies every some same
copies-none = refl
