-- The lines of a field's rows, told from the row where the loop stands.
use mathlib.Core.Path.{◌≡◌, refl, sym, ap, ◌∙◌}
use Prim.Native.Nat.{ℕ, ◌+◌, ◌*◌, ◌-◌, ◌≤◌, ◌<◌}
use native.Mathlib.Omega.{arith}
use mathlib.Core.Bool.{Bool, true, false}
use mathlib.Core.List.{List, [], ◌∷◌, ◌++◌, map, flat_map}
use lib.ListN.{length, get_or, drop}
use lib.Seq.{get_or-drop}
use lib.Dec.{eqb, ltb}
use borrow.Author.Tests.{eqb-true, ltb-true, ltb-false}
use Rattle.text.specs.Bytes.{Text, every}
use Rattle.text.specs.declared.writer.Writer.{Writer}
use Rattle.text.specs.Writes.{Writes}
use Rattle.text.proofs.Tests.{both}
use Rattle.profile.specs.Numbers.{leaf_of, listed_of, rows_within, row_size, segment_column, field_column, type_column}
use Rattle.profile.specs.Order.{is_proper, reason_fits, same_field}
use Rattle.codes.specs.Inner.{IsField, rule_at}
use Rattle.codes.proofs.RowSteps.{rows_none, rows_next}
use Rattle.codes.proofs.Ascending.{proper_row}
use Rattle.chart.specs.Chart.{Charted, row_lists, is_alone, field_lists}
use Rattle.chart.specs.Inner.{asked_lines, row_lines}
use Rattle.page.proofs.Putting.{Putting, putting-first, putting-room, putting-on, putting-end}
use Rattle.page.proofs.AskedLines.{asked-none, asked-more}

-- the rows left: proper ones, and of the field of its first row
pub record RowsLeft (table : List ℕ) (first next row : ℕ) : Type 0 where
  pub order : row ≤ next
  pub proper : every is_proper (rows_within row next table) ≡ true
  pub one : every (λ (r : List ℕ). same_field (drop first table) r) (rows_within row next table) ≡ true

rows-first : {table : List ℕ} {k first next : ℕ} → IsField table k first next → RowsLeft table first next first
rows-first is = record { order = omega (arith, is.some); proper = is.ordered.proper; one = is.one }

-- their lists
abbrev lists_left : List ℕ → Text → ℕ → Bool → ℕ → ℕ → List Charted
lists_left table n first alone next row =
    flat_map (row_lists n (get_or table (first + field_column) 0) alone) (map listed_of (rows_within row next table))

-- A FIELD LISTS A LEAF ALONE where it has no second row
module _ (table : List ℕ) (first next : ℕ) (more : row_size ≤ next - first) where
  abbrev others : List (List ℕ)
  others = rows_within (first + row_size) next table

  alone-step : (b : Bool) → ltb (next - first) (2 * row_size) ≡ b → b ≡ is_alone (map listed_of (drop first table ∷ others))
  alone-step true e = rw (rows_none table (first + row_size) next (omega (arith, ltb-true (next - first) (2 * row_size) e)))
  alone-step false e = rw (rows_next table (first + row_size) next (omega (arith, ltb-false (next - first) (2 * row_size) e)))

  alone-is : ltb (next - first) (2 * row_size) ≡ is_alone (map listed_of (rows_within first next table))
  alone-is = rw (rows_next table first next more) (alone-step (ltb (next - first) (2 * row_size)) refl)

  lists-all : (n : Text) → lists_left table n first (ltb (next - first) (2 * row_size)) next first ≡ field_lists n (rule_at table first next)
  lists-all n = rw alone-is

module _ {table : List ℕ} {first next row : ℕ} (w : RowsLeft table first next row) (more : row_size ≤ next - row) where
  abbrev here : List ℕ
  here = drop row table

  abbrev later : List (List ℕ)
  later = rows_within (row + row_size) next table

  rows_are : rows_within row next table ≡ here ∷ later
  rows_are = rows_next table row next more

  propers : (is_proper here ≡ true) × (every is_proper later ≡ true)
  unfolding every
  propers = both (is_proper here) (every is_proper later) (rw rows_are at w.proper)

  ones : (same_field (drop first table) here ≡ true) × (every (λ (r : List ℕ). same_field (drop first table) r) later ≡ true)
  unfolding every
  ones = both (same_field (drop first table) here) (every (λ (r : List ℕ). same_field (drop first table) r) later) (rw rows_are at w.one)

  pub row_leaf : get_or here type_column 0 < 10 → reason_fits (leaf_of here).list ≡ true
  row_leaf h = ((proper_row here propers.0).leaf h).1

  rows_on : RowsLeft table first next (row + row_size)
  rows_on = record { order = omega (arith, w.order); proper = propers.1; one = ones.1 }

  row_field : get_or table (first + field_column) 0 ≡ get_or here field_column 0
  row_field =
      let x = drop first table in
      let b = both (eqb (get_or x segment_column 0) (get_or here segment_column 0)) (eqb (get_or x field_column 0) (get_or here field_column 0)) ones.0 in
      sym (get_or-drop first table field_column 0) ∙ eqb-true (get_or x field_column 0) (get_or here field_column 0) b.1

  row_lines_lem : (name : Text) (f k : ℕ) (n : Text) (alone : Bool)
      → asked_lines name f k (lists_left table n first alone next row)
      ≡ row_lines name f k n alone here ++ asked_lines name f k (lists_left table n first alone next (row + row_size))
  unfolding flat_map
  row_lines_lem name f k n alone =
      rw rows_are
      (asked-more name f k (row_lists n (get_or table (first + field_column) 0) alone (listed_of here)) (lists_left table n first alone next (row + row_size))
      ∙ ap
      (λ (i : ℕ). asked_lines name f k (row_lists n i alone (listed_of here)) ++ asked_lines name f k (lists_left table n first alone next (row + row_size)))
      row_field)

-- none is left
rows_end : (table : List ℕ) (first next row : ℕ) (name : Text) (f k : ℕ) (n : Text) (alone : Bool) → next - row < row_size
    → asked_lines name f k (lists_left table n first alone next row) ≡ []
unfolding flat_map
rows_end table first next row name f k n alone l = rw (rows_none table row next l) (asked-none name f k)

-- THE LINES OF A FIELD: those of the rows passed stand there, and those of the rows left are still to be put
module _ (table : List ℕ) (first next : ℕ) (n name : Text) (f k : ℕ) where
  pub record PutsRows (alone : Bool) (before out : Writer) (row : ℕ) : Type 0 where
    pub left : RowsLeft table first next row
    pub putting : Putting before (asked_lines name f k (field_lists n (rule_at table first next))) out (asked_lines name f k (lists_left table n first alone next row))

module _ {table : List ℕ} {first next : ℕ} {n name : Text} {f k : ℕ} {before : Writer} where
  pub puts-rows-first : {s : ℕ} → IsField table s first next
      → before.at + length (asked_lines name f k (field_lists n (rule_at table first next))) ≤ length before.out.now
      → PutsRows table first next n name f k (ltb (next - first) (2 * row_size)) before before first
  puts-rows-first is h =
      record {
        left = rows-first is;
        putting = putting-first (ap (asked_lines name f k) (lists-all table first next (omega (arith, is.some)) n)) h;
      }

  module _ {alone : Bool} {out : Writer} {row : ℕ} (w : PutsRows table first next n name f k alone before out row) where
    pub row_room : row_size ≤ next - row → out.at + length (row_lines name f k n alone (drop row table)) ≤ length out.out.now
    row_room more =
        putting-room w.putting (row_lines name f k n alone (drop row table)) (asked_lines name f k (lists_left table n first alone next (row + row_size)))
        (row_lines_lem w.left more name f k n alone)

    pub puts_row : {after : Writer} → row_size ≤ next - row → Writes out (row_lines name f k n alone (drop row table)) after
        → PutsRows table first next n name f k alone before after (row + row_size)
    puts_row more p = record { left = rows_on w.left more; putting = putting-on w.putting (row_lines_lem w.left more name f k n alone) p }

    pub puts-rows : next - row < row_size → Writes before (asked_lines name f k (field_lists n (rule_at table first next))) out
    puts-rows l = putting-end w.putting (rows_end table first next row name f k n alone l)
