-- Inner: no entry's promise is made of this.
-- The table's rule: what the code that reads a lent table relies on. It is tested once, over the whole table.
use Rattle.std.specs.Prelude.{ℕ, suc, ◌+◌, ◌*◌, ◌-◌, ◌/◌, ◌≡◌, Bool, true, false, not, ◌&&◌, ◌||◌, List, [], ◌∷◌, map, length, get_or, take, eqb, leb, ltb}
use Rattle.text.specs.Bytes.{pick, every}
use Rattle.text.specs.Ranges.{◌to◌, is_within}
use Rattle.profile.specs.Table.{Simple, SI, NM, DTM, TM, ST, TX, FT, ID, IS, Codes, any, only, Leaf}
use Rattle.profile.specs.Codes.{HasLists}
use Rattle.profile.specs.Numbers.{row_size, segment_column, field_column, component_column, subcomponent_column, repetitions_column, type_column, next_column, sure_column, first_type, named_by, first_field, first_namer, leaf_of, rows_within, begin, under}

-- a row's place as one number: segment, field, component, subcomponent
abbrev pub rank_of : List ℕ → ℕ
rank_of r = ((get_or r segment_column 0 * 256 + get_or r field_column 0) * 256 + get_or r component_column 0) * 256 + get_or r subcomponent_column 0

-- each number is above the one before it
unfoldable pub rising : List ℕ → Bool
rising [] = true
rising (x ∷ []) = true
rising (x ∷ y ∷ l) = ltb x y && rising (y ∷ l)

-- STRICTLY RISING PLACE ORDER
abbrev pub rises : List (List ℕ) → Bool
rises rs = rising (map rank_of rs)

-- the columns of a place are single bytes
abbrev pub small : List ℕ → Bool
small r = ltb (get_or r field_column 0) 256 && ltb (get_or r component_column 0) 256 && ltb (get_or r subcomponent_column 0) 256

-- a row whose type another field names, and one that lists a leaf: its component is a number from 1, and its reason, where it has a list, one from 1 to 12
abbrev pub is_named : List ℕ → Bool
is_named r = leb named_by (get_or r type_column 0)

abbrev pub reason_fits : Codes → Bool
reason_fits any = true
reason_fits (only codes n) = is_within (1 to 12) n

abbrev pub lists_leaf : List ℕ → Bool
lists_leaf r = not (is_named r) && leb 1 (get_or r component_column 0) && reason_fits (leaf_of r).list

-- a field's number is one from 1; of the header from 3, since MSH-1 and MSH-2 are its separators. A type's rows are of one field
abbrev pub field_fits : List ℕ → Bool
field_fits r =
    leb (first_field (get_or r segment_column 0)) (get_or r field_column 0) && (ltb (get_or r segment_column 0) first_type || (eqb (get_or r field_column 0) 1 && not (is_named r)))

-- a row whose type another field names has type 10 and that field's number: one from 1, of the header from 3
abbrev pub namer_fits : List ℕ → Bool
namer_fits r = leb (first_namer (get_or r segment_column 0)) (get_or r type_column 0)

abbrev pub is_proper : List ℕ → Bool
is_proper r = small r && field_fits r && leb 1 (get_or r repetitions_column 0) && (namer_fits r || lists_leaf r)

-- a row whose type another field names is the only one of its field
abbrev pub same_field : List ℕ → List ℕ → Bool
same_field x y = eqb (get_or x segment_column 0) (get_or y segment_column 0) && eqb (get_or x field_column 0) (get_or y field_column 0)

unfoldable pub alone : List (List ℕ) → Bool
alone [] = true
alone (x ∷ []) = true
alone (x ∷ y ∷ l) = not (same_field x y && (is_named x || is_named y)) && alone (y ∷ l)

-- how many of these rows come first that are of that field
unfoldable pub of_field : ℕ → List (List ℕ) → ℕ
of_field f [] = 0
of_field f (r ∷ rs) = pick (eqb (get_or r field_column 0) f) (suc (of_field f rs)) 0

-- THE NEXT FIELD's rows begin where a row says so: the row begins at that place, and others follow it
abbrev pub leads : ℕ → List ℕ → List (List ℕ) → Bool
leads at r rs = eqb (get_or r next_column 0) (at + of_field (get_or r field_column 0) (r ∷ rs) * row_size)

-- any text of up to n bytes will do at a leaf; only component 1 may be starred
abbrev pub takes_any : Simple → Bool
takes_any SI = false
takes_any NM = false
takes_any DTM = false
takes_any TM = false
takes_any ST = true
takes_any TX = true
takes_any FT = true
takes_any ID = true
takes_any IS = true

abbrev pub has_no_list : Codes → Bool
has_no_list any = true
has_no_list (only codes n) = false

abbrev pub takes_up_to : ℕ → Leaf → Bool
takes_up_to n l =
    leb n l.limit
    && takes_any l.type
    && has_no_list l.list
    && eqb l.subcomponent 1
    && (not l.star || eqb l.component 1)

-- SURE TO PASS: where a row says a length, it is of component 1, and texts of up to so many bytes will do at each leaf of its field
abbrev pub is_sure : List ℕ → List (List ℕ) → Bool
is_sure r rs =
    eqb (get_or r sure_column 0) 0
    || (eqb (get_or r component_column 0) 1
    && every (λ (x : List ℕ). takes_up_to (get_or r sure_column 0) (leaf_of x)) (take (of_field (get_or r field_column 0) (r ∷ rs)) (r ∷ rs)))

-- both hold of each of these rows, the first of which begins at that place
unfoldable pub guides : ℕ → List (List ℕ) → Bool
guides at [] = true
guides at (r ∷ rs) = leads at r rs && is_sure r rs && guides (at + row_size) rs

abbrev pub numbers : List ℕ
numbers = 1 ∷ 2 ∷ 3 ∷ 4 ∷ 5 ∷ 6 ∷ 7 ∷ 8 ∷ 9 ∷ 10 ∷ 11 ∷ 12 ∷ 13 ∷ 14 ∷ 15 ∷ 16 ∷ []

-- the rows after the lists; under each number some begin and end among them, whole rows apart, and guide the reader through them
abbrev pub behind : List ℕ → ℕ
behind table = begin table 1

abbrev pub all_rows : List ℕ → List (List ℕ)
all_rows table = rows_within (behind table) (length table) table

-- rows of the segment, or of the type, with that number
abbrev pub are_of : ℕ → List (List ℕ) → Bool
are_of k rs = every (λ (r : List ℕ). eqb (get_or r segment_column 0) k) rs

abbrev pub is_whole : ℕ → List ℕ → Bool
is_whole k table =
    eqb (begin table k) (behind table + (begin table k - behind table) / row_size * row_size)
    && leb (begin table k + row_size) (begin table (suc k))
    && leb (begin table (suc k)) (length table)
    && are_of k (under k table)
    && guides (begin table k) (under k table)

-- rows in order: what those within a place and another have of all of them
pub record Ordered (rs : List (List ℕ)) : Type 0 where
  pub order : rises rs ≡ true
  pub proper : every is_proper rs ≡ true
  pub lone : alone rs ≡ true

-- THE RULE
pub record Sound (table : List ℕ) : Type 0 where
  pub rows : Ordered (all_rows table)
  pub index : every (λ (k : ℕ). is_whole k table) numbers ≡ true
  pub lists : HasLists table
