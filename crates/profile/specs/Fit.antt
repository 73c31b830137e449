-- A demand is said with this.
-- What a table must be for demand 3.
use Rattle.std.specs.Prelude.{ℕ, Bool, true, false, ◌&&◌, List, [], ◌∷◌, eqb, leb}
use Prim.Native.String as string
use Rattle.text.specs.Bytes.{Text, bytes, every, some, same}
use Rattle.profile.specs.Table.{Listed, leaf, named_by_field, Row, Table}

-- a row that lists subcomponent 1 of that component
abbrev pub lists_component : ℕ → Listed → Bool
lists_component c (leaf l) = eqb l.component c && eqb l.subcomponent 1
lists_component c (named_by_field g) = false

-- the table has that row
abbrev pub has_row : Table → Text → ℕ → ℕ → Bool
has_row T n f c =
    some (λ (r : Row). (same r.segment n && eqb r.field f) && lists_component c r.lists) T.rows

-- where a row takes the type that another field names, that field's first leaf has a row in the same segment
abbrev pub namer_listed : Table → Text → Listed → Bool
namer_listed T n (leaf l) = true
namer_listed T n (named_by_field f) = has_row T n f 1

-- each field may have at least one repetition
abbrev pub allows_one : Row → Bool
allows_one r = leb 1 r.repetitions

abbrev pub row_fit : Table → Row → Bool
row_fit T r = allows_one r && namer_listed T r.segment r.lists

-- EACH ROW FITS. Demand 3 is of tables that are fit and have the rows of what is copied (below)
unfoldable pub fit : Table → Bool
fit T = every (row_fit T) T.rows

-- a component of a field that is copied
pub record Copied : Type 0 where
  pub segment : Text
  pub field : ℕ
  pub component : ℕ

abbrev pub copied : string.String → ℕ → ℕ → Copied
copied n f c = record { segment = bytes n; field = f; component = c }

-- the leaves that replies and slips copy; OBX is counted for tag 6, so the table must name it: OBX-2 stands for that, any row of OBX would do
abbrev pub copies : List Copied
copies =
    copied "MSH" 3 1
    ∷ copied "MSH" 3 2
    ∷ copied "MSH" 3 3
    ∷ copied "MSH" 4 1
    ∷ copied "MSH" 4 2
    ∷ copied "MSH" 4 3
    ∷ copied "MSH" 5 1
    ∷ copied "MSH" 5 2
    ∷ copied "MSH" 5 3
    ∷ copied "MSH" 6 1
    ∷ copied "MSH" 6 2
    ∷ copied "MSH" 6 3
    ∷ copied "MSH" 10 1
    ∷ copied "MSH" 11 1
    ∷ copied "PID" 3 1
    ∷ copied "OBR" 2 1
    ∷ copied "OBR" 3 1
    ∷ copied "OBR" 4 1
    ∷ copied "OBX" 2 1
    ∷ []

-- THE ROWS OF WHAT IS COPIED are there
unfoldable pub has_copies : Table → Bool
has_copies T = every (λ (c : Copied). has_row T c.segment c.field c.component) copies
