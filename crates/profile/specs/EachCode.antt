-- No entry's promise is made of this: it is a theorem about the definitions.
-- Said of every list of a table: its leaf takes each code of it, and no code stands in it twice.
use Rattle.std.specs.Prelude.{Bool, true, not, ◌&&◌, List, [], ◌∷◌, length, leb}
use Rattle.text.specs.Bytes.{Text, every, is_one}
use Rattle.text.specs.Ranges.{◌to◌, is_within}
use Rattle.profile.specs.Table.{Codes, any, only, Leaf, Listed, leaf, named_by_field, Row, TypeLeaves, Table, of_type, no_such_day}

-- no text is one of those after it
unfoldable pub distinct : List Text → Bool
distinct [] = true
distinct (t ∷ ts) = not (is_one t ts) && distinct ts

-- a code is not Empty and has at most 20 bytes; it passes its own list, and the leaf's limit (its written bytes do, so what a person reads does) and type; its day
-- exists, if it is a date
abbrev pub is_taken : Leaf → List Text → Text → Bool
is_taken l codes c =
    is_within (1 to 20) (length c) && is_one c codes && leb (length c) l.limit && of_type l.type c && not (no_such_day l.type c)

abbrev pub list_taken : Leaf → Codes → Bool
list_taken l any = true
list_taken l (only codes n) = every (is_taken l codes) codes && distinct codes

abbrev pub leaf_takes : Leaf → Bool
leaf_takes l = list_taken l l.list

abbrev pub listed_takes : Listed → Bool
listed_takes (leaf l) = leaf_takes l
listed_takes (named_by_field g) = true

-- EACH CODE IS TAKEN, of each row's leaf and of each type's
unfoldable pub codes_taken : Table → Bool
codes_taken T =
    every (λ (r : Row). listed_takes r.lists) T.rows
    && every (λ (x : TypeLeaves). every leaf_takes x.leaves) T.types
    && every leaf_takes T.otherwise
