-- No entry's promise is made of this: it is a theorem about the definitions.
-- Said of 01's table as a whole: strictly rising place order.
use Rattle.std.specs.Prelude.{ℕ, Bool, true, false, ◌&&◌, ◌||◌, List, [], ◌∷◌, map, eqb, ltb}
use Rattle.text.specs.Bytes.{every, is_one}
use Rattle.profile.specs.Table.{Leaf, Listed, leaf, named_by_field, Row, TypeLeaves, Table, Rule, rules_of}
use Rattle.profile.specs.Numbers.{segment_names, segment_number}

-- a place is before another: it has the smaller number where they first differ
unfoldable pub before : List ℕ → List ℕ → Bool
before [] ys = false
before (x ∷ xs) [] = false
before (x ∷ xs) (y ∷ ys) = ltb x y || (eqb x y && before xs ys)

-- each place is before the next
unfoldable pub in_order : List (List ℕ) → Bool
in_order [] = true
in_order (x ∷ []) = true
in_order (x ∷ y ∷ l) = before x y && in_order (y ∷ l)

-- a leaf's place in its field: component, subcomponent
abbrev pub leaf_place : Leaf → List ℕ
leaf_place l = l.component ∷ l.subcomponent ∷ []

abbrev pub leaves_rise : List Leaf → Bool
leaves_rise ls = in_order (map leaf_place ls)

-- a row's: the segment's number in 01's list, the field, and the leaf that it lists, unless another field names the type
abbrev pub listed_place : Listed → List ℕ
listed_place (leaf l) = leaf_place l
listed_place (named_by_field g) = []

abbrev pub row_place : Row → List ℕ
row_place r = segment_number r.segment ∷ r.field ∷ listed_place r.lists

-- THE ROWS RISE, all of them of listed segments; so do the leaves of each type that a field may name, and those where it names none
unfoldable pub table_rises : Table → Bool
table_rises T =
    every (λ (r : Row). is_one r.segment segment_names) T.rows
    && in_order (map row_place T.rows)
    && every (λ (x : TypeLeaves). leaves_rise x.leaves) T.types
    && leaves_rise T.otherwise

-- as they are judged: the listed fields of each segment rise
unfoldable pub fields_rise : Table → Bool
fields_rise T = every (λ n. in_order (map (λ (u : Rule). u.field ∷ []) (rules_of T n))) segment_names
