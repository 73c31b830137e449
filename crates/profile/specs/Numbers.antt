-- Inner: no entry's promise is made of this.
-- A table as the machine has it: an index of the rows, the lists (Codes.antt), then the rows. The rows of the segments stand under the numbers 1 to 7; under 8
-- to 15 stand the leaves of the types that a field may name, in the order of OBX-2's list, and under 16 those where it names none.
use Rattle.std.specs.Prelude.{ℕ, zero, suc, ◌+◌, ◌-◌, ◌/◌, ◌≡◌, Bool, true, List, [], ◌∷◌, ◌++◌, map, get_or, drop, eqb, ltb}
use Rattle.text.specs.Bytes.{Text, pick, bytes, same, is_one}
use Rattle.profile.specs.Table.{Simple, SI, NM, DTM, TM, ST, TX, FT, ID, IS, Codes, any, only, Leaf, Listed, leaf, named_by_field, Usage, O, R, C, Row, TypeLeaves, Table}
use Rattle.profile.specs.Noted.{Noted}
use Rattle.profile.specs.Lists.{value-types, lists}
use Rattle.profile.specs.Profile.{succession, ends}

-- how many numbers a row has, and what they are: its columns, counted from 0
abbrev pub row_size : ℕ
row_size = 13

abbrev pub segment_column : ℕ
segment_column = 0

abbrev pub field_column : ℕ
field_column = 1

abbrev pub component_column : ℕ
component_column = 2

abbrev pub subcomponent_column : ℕ
subcomponent_column = 3

abbrev pub usage_column : ℕ
usage_column = 4

abbrev pub repetitions_column : ℕ
repetitions_column = 5

abbrev pub type_column : ℕ
type_column = 6

abbrev pub star_column : ℕ
star_column = 7

abbrev pub limit_column : ℕ
limit_column = 8

abbrev pub list_column : ℕ
list_column = 9

abbrev pub reason_column : ℕ
reason_column = 10

-- two that only spare the machine work, and say nothing of the table (Order.antt): where the rows of the next field begin, and how long a text may be that is
-- sure to pass
abbrev pub next_column : ℕ
next_column = 11

abbrev pub sure_column : ℕ
sure_column = 12

-- the header's number, the first number of a type, and that of a text that names none
abbrev pub header_number : ℕ
header_number = 1

abbrev pub first_type : ℕ
first_type = 8

abbrev pub no_type : ℕ
no_type = 16

-- a type from this number on is the one that a field names: this number and the field's
abbrev pub named_by : ℕ
named_by = 10

-- the first field of a segment with that number that a row may list, since MSH-1 and MSH-2 are the header's separators; as the field that names a type;
-- how many fields stand before it; and from which byte on they stand: after the header's nine bytes, or the four of another segment's name and separator, which
-- frame calls header_size and opening_size
abbrev pub first_field : ℕ → ℕ
first_field k = pick (eqb k header_number) 3 1

abbrev pub first_namer : ℕ → ℕ
first_namer k = named_by + first_field k

abbrev pub fields_before : ℕ → ℕ
fields_before k = pick (eqb k header_number) 2 0

abbrev pub fields_from : ℕ → ℕ
fields_from k = pick (eqb k header_number) 9 4

-- segments and lists by number, from 1, in 01's order
abbrev pub segment_names : List Text
segment_names =
    bytes "MSH" ∷ bytes "PID" ∷ bytes "NK1" ∷ bytes "ORC" ∷ bytes "OBR" ∷ bytes "OBX" ∷ bytes "NTE" ∷ []

abbrev pub codes_in : Codes → List Text
codes_in any = []
codes_in (only codes n) = codes

abbrev pub code_lists : List (List Text)
code_lists = map (λ (x : Noted Codes). codes_in x.says) lists

-- the list with that number, 0 for none, and its reason; a text that such a list takes
abbrev pub codes_of : ℕ → ℕ → Codes
codes_of zero n = any
codes_of (suc i) n = only (get_or code_lists i []) n

abbrev pub is_in_list : ℕ → Text → Bool
is_in_list zero t = true
is_in_list (suc i) t = is_one t (get_or code_lists i [])

abbrev pub usage_of : ℕ → Usage
usage_of zero = O
usage_of (suc zero) = R
usage_of (suc (suc f)) = C f

abbrev pub simple_of : ℕ → Simple
simple_of n =
    pick (eqb n 1) SI (pick (eqb n 2) NM (pick (eqb n 3) DTM (pick (eqb n 4) TM (pick (eqb n 5) ST
    (pick (eqb n 6) TX (pick (eqb n 7) FT (pick (eqb n 8) ID IS)))))))

-- the row that the first of these numbers are, and the leaf that it lists
abbrev pub leaf_of : List ℕ → Leaf
leaf_of r =
    record {
      component = get_or r component_column 0;
      subcomponent = get_or r subcomponent_column 0;
      type = simple_of (get_or r type_column 0);
      star = eqb (get_or r star_column 0) 1;
      limit = get_or r limit_column 0;
      list = codes_of (get_or r list_column 0) (get_or r reason_column 0);
    }

abbrev pub listed_of : List ℕ → Listed
listed_of r = pick (ltb (get_or r type_column 0) named_by) (leaf (leaf_of r)) (named_by_field (get_or r type_column 0 - named_by))

abbrev pub row_of : Text → List ℕ → Row
row_of n r =
    record {
      segment = n;
      field = get_or r field_column 0;
      usage = usage_of (get_or r usage_column 0);
      repetitions = get_or r repetitions_column 0;
      lists = listed_of r;
    }

-- k rows: the numbers from each of them on
unfoldable pub rows_from : ℕ → List ℕ → List (List ℕ)
rows_from zero table = []
rows_from (suc k) table = table ∷ rows_from k (drop row_size table)

-- the rows from one place of a table up to another
abbrev pub rows_within : ℕ → ℕ → List ℕ → List (List ℕ)
rows_within at end table = rows_from ((end - at) / row_size) (drop at table)

-- THE INDEX: where the rows under a number begin; the next number's beginning is their end
abbrev pub begin : List ℕ → ℕ → ℕ
begin table k = get_or table k 0

abbrev pub under : ℕ → List ℕ → List (List ℕ)
under k table = rows_within (begin table k) (begin table (suc k)) table

abbrev pub leaves_under : ℕ → List ℕ → List Leaf
leaves_under k table = map leaf_of (under k table)

-- the number of a text in a list, counted from k; another one where it is none of them
unfoldable pub number_in : ℕ → ℕ → List Text → Text → ℕ
number_in none k [] text = none
number_in none k (n ∷ ns) text = pick (same n text) k (number_in none (suc k) ns text)

abbrev pub segment_number : Text → ℕ
segment_number n = number_in 0 1 segment_names n

abbrev pub type_number : Text → ℕ
type_number text = number_in no_type first_type value-types text

-- types with their leaves, the first of them under number k
unfoldable pub types_from : ℕ → List Text → List ℕ → List TypeLeaves
types_from k [] table = []
types_from k (n ∷ ns) table = record { type = n; leaves = leaves_under k table } ∷ types_from (suc k) ns table

-- segments with their rows, the first of them under number k
unfoldable pub segments_from : ℕ → List Text → List ℕ → List Row
segments_from k [] table = []
segments_from k (n ∷ ns) table = map (row_of n) (under k table) ++ segments_from (suc k) ns table

-- THE TABLE that a list of numbers is: its rows and types, and 01's succession and ends
unfoldable pub table_of : List ℕ → Table
table_of table =
    record {
      rows = segments_from 1 segment_names table;
      types = types_from first_type value-types table;
      otherwise = leaves_under no_type table;
      succession = succession;
      ends = ends;
    }

-- the numbers are that table
pub record AreTable (table : List ℕ) (T : Table) : Type 0 where
  pub rows : (table_of table).rows ≡ T.rows
  pub types : (table_of table).types ≡ T.types
  pub otherwise : (table_of table).otherwise ≡ T.otherwise
  pub succession : (table_of table).succession ≡ T.succession
  pub ends : (table_of table).ends ≡ T.ends
