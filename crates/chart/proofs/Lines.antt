-- A line as it is written, one text after another.
use mathlib.Core.Path.{◌≡◌, refl, sym, ◌∙◌}
use Prim.Native.Nat.{ℕ, ◌+◌}
use native.Mathlib.Omega.{arith}
use mathlib.Core.Bool.{Bool, false}
use mathlib.Core.List.{List, [], ◌∷◌, ◌++◌, append_assoc}
use lib.ListN.{length, get_or, drop, length-append}
use lib.Seq.{get_or-drop}
use Rattle.text.specs.Bytes.{Text, pick, bytes, byte, within}
use Rattle.text.specs.Decimal.{decimal}
use Rattle.text.specs.declared.writer.Writer.{Writer}
use Rattle.text.specs.Writes.{Writes}
use Rattle.text.proofs.Writes.{writes-both}
use Rattle.parts.specs.Split.{led, join}
use Rattle.profile.specs.Codes.{codes_from}
use Rattle.profile.specs.Numbers.{field_column, component_column, list_column, reason_column, codes_in, leaf_of}
use Rattle.text.specs.declared.span.Span.{Span}
use Rattle.codes.specs.Inner.{AreListed}
use Rattle.reader.specs.Fault.{condition}
use Rattle.line.proofs.Lines.{led-more}
use Rattle.line.specs.Line.{newline, as_line}
use Rattle.chart.specs.Chart.{Charted, place_text, chart_line}
use Rattle.chart.specs.Inner.{reason_words, row_charted, row_line}

-- THE PLACE of the row that begins at a place of a table
module _ (n : Text) (alone : Bool) (table : List ℕ) (row : ℕ) where
  abbrev f : ℕ
  f = get_or table (row + field_column) 0

  abbrev c : ℕ
  c = get_or table (row + component_column) 0

  pub place-written : place_text (row_charted n alone (drop row table)) ≡ n ++ (bytes "-" ++ (decimal f ++ pick alone [] (bytes "." ++ decimal c)))
  place-written =
      rw (get_or-drop row table field_column 0, get_or-drop row table component_column 0)
      (append_assoc n (byte "-" ∷ decimal f) (pick alone [] (byte "." ∷ decimal c)))

  pub place-length : length (place_text (row_charted n alone (drop row table)))
      ≡ length n + 1 + length (decimal f) + length (pick alone [] (bytes "." ++ decimal c))
  place-length = rw place-written (simp length-append (omega arith))

  pub among_length : alone ≡ false → length (place_text (row_charted n alone (drop row table))) ≡ length n + 2 + length (decimal f) + length (decimal c)
  among_length e = place-length ∙ rw e (omega arith)

pub reason-written : (r : ℕ)
    → led (byte " ") (reason_words r) ≡ bytes " reason " ++ (decimal r ++ (bytes " condition " ++ (decimal (condition r) ++ bytes " codes")))
unfolding led
reason-written r = refl

pub reason-length : (r k : ℕ) → k ≡ condition r → length (led (byte " ") (reason_words r)) ≡ 25 + length (decimal r) + length (decimal k)
reason-length r k e = rw (e, reason-written r) (simp length-append (omega arith))

line_written : (c : Charted)
    → as_line (chart_line c) ≡ place_text c ++ (led (byte " ") (reason_words c.reason) ++ (led (byte " ") c.codes ++ newline ∷ []))
unfolding chart_line join
line_written c = rw (led-more (byte " ") (reason_words c.reason) c.codes) (simp append_assoc)

-- THE LINE of the row that begins at a place of a table, with the codes of its list among the lists
module _ (n : Text) (alone : Bool) (table : List ℕ) (row : ℕ) (lists : List ℕ) (l : Span) (are : AreListed lists (get_or table (row + list_column) 0) l) where
  abbrev place : Text
  place = place_text (row_charted n alone (drop row table))

  abbrev reason : Text
  reason = led (byte " ") (reason_words (get_or table (row + reason_column) 0))

  abbrev codes : Text
  codes = led (byte " ") (codes_from (within l.start l.end lists))

  codes-are : codes_in (leaf_of (drop row table)).list ≡ codes_from (within l.start l.end lists)
  codes-are = rw (get_or-drop row table list_column 0) (sym (are.codes (get_or (drop row table) reason_column 0)))

  row_written : row_line n alone (drop row table) ≡ place ++ (reason ++ (codes ++ newline ∷ []))
  row_written = line_written (row_charted n alone (drop row table)) ∙ rw (codes-are, get_or-drop row table reason_column 0)

  pub row_length : length (row_line n alone (drop row table)) ≡ length place + length reason + length codes + 1
  row_length = rw row_written (simp length-append (omega arith))

  pub row_puts : {before x y z after : Writer} → Writes before place x → Writes x reason y → Writes y codes z → Writes z (newline ∷ []) after
      → Writes before (row_line n alone (drop row table)) after
  row_puts p q o e = rw row_written (writes-both p (writes-both q (writes-both o e)))
