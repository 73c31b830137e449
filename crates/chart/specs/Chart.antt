-- The desk's programs promise this.
-- The lists of codes as they are printed for the wall, one line a list.
use Rattle.std.specs.Prelude.{ℕ, Bool, true, false, ◌&&◌, ◌||◌, eqb}
use mathlib.Core.List.{List, [], ◌∷◌, ◌++◌, map, flat_map}
use Rattle.text.specs.Bytes.{Text, pick, bytes, byte, keep, same}
use Rattle.text.specs.Decimal.{decimal}
use Rattle.parts.specs.Split.{join, closed}
use Rattle.profile.specs.Table.{Codes, any, only, Listed, leaf, named_by_field, Succession, Table, Rule, rules_of}
use Rattle.reader.specs.Fault.{condition}
use Rattle.line.specs.Line.{newline, as_line}

-- a list: the place that it applies to, and whether the field lists that leaf alone; the codes, and the reason where a text is none of them
pub record Charted : Type 0 where
  pub segment : Text
  pub field : ℕ
  pub component : ℕ
  pub alone : Bool
  pub codes : List Text
  pub reason : ℕ

-- the list of a leaf, where it has one; of what a row lists
abbrev pub leaf_lists : Text → ℕ → Bool → ℕ → Codes → List Charted
leaf_lists n f alone c any = []
leaf_lists n f alone c (only codes r) =
    record { segment = n; field = f; component = c; alone = alone; codes = codes; reason = r } ∷ []

abbrev pub row_lists : Text → ℕ → Bool → Listed → List Charted
row_lists n f alone (leaf l) = leaf_lists n f alone l.component l.list
row_lists n f alone (named_by_field g) = []

abbrev pub is_alone : List Listed → Bool
is_alone [] = true
is_alone (x ∷ []) = true
is_alone (x ∷ y ∷ l) = false

-- the lists of a field, of a segment
abbrev pub field_lists : Text → Rule → List Charted
field_lists n u = flat_map (row_lists n u.field (is_alone u.lists)) u.lists

unfoldable pub segment_lists : Table → Text → List Charted
segment_lists T n = flat_map (field_lists n) (rules_of T n)

-- THE LISTS of a table: those of each segment that the succession names
unfoldable pub charted : Table → List Charted
charted T = flat_map (λ (s : Succession). segment_lists T s.segment) T.succession

-- a place as it is printed: PID-8, and MSH-9.1 where the field lists more than one leaf
abbrev pub place_text : Charted → Text
place_text c =
    c.segment ++ byte "-" ∷ decimal c.field ++ pick c.alone [] (byte "." ∷ decimal c.component)

-- A LINE: the place; the reason and the condition where a text is none of the codes; the codes
unfoldable pub chart_line : Charted → Text
chart_line c =
    join (byte " ")
    (place_text c ∷ bytes "reason" ∷ decimal c.reason ∷ bytes "condition" ∷ decimal (condition c.reason) ∷ bytes "codes" ∷ c.codes)

-- what is asked for: field 0 for every list; else those of that field of a segment, component 0 for every component
abbrev pub is_asked : Text → ℕ → ℕ → Charted → Bool
is_asked n f k c = eqb f 0 || (same n c.segment && eqb f c.field && (eqb k 0 || eqb k c.component))

abbrev pub lines_of : List Charted → Text
lines_of cs = closed newline (map chart_line cs)

-- THE PAGE: a line for each list that is asked for; a place with none says so
abbrev pub or_none : Text → Text
or_none [] = as_line (bytes "no list")
or_none (b ∷ t) = b ∷ t

unfoldable pub page : Table → Text → ℕ → ℕ → Text
page T n f k = or_none (lines_of (keep (is_asked n f k) (charted T)))
