-- Inner: no entry's promise is made of this.
-- What only inner functions promise and ask for: a line as it stands in a table, the lines of a row, and of the rows from one place of a table up to another.
use Rattle.std.specs.Prelude.{ℕ, Bool, List, [], ◌∷◌, get_or}
use Rattle.text.specs.Bytes.{Text, bytes, keep}
use Rattle.text.specs.Decimal.{decimal}
use Rattle.profile.specs.Numbers.{field_column, component_column, reason_column, codes_in, leaf_of, listed_of}
use Rattle.reader.specs.Fault.{condition}
use Rattle.line.specs.Line.{as_line}
use Rattle.chart.specs.Chart.{Charted, row_lists, chart_line, is_asked, lines_of}

-- the words between a place and the codes
abbrev pub reason_words : ℕ → List Text
reason_words r = bytes "reason" ∷ decimal r ∷ bytes "condition" ∷ decimal (condition r) ∷ bytes "codes" ∷ []

-- the list of the row that the first of these numbers are, in a segment with that name; its line
abbrev pub row_charted : Text → Bool → List ℕ → Charted
row_charted n alone r =
    record {
      segment = n;
      field = get_or r field_column 0;
      component = get_or r component_column 0;
      alone = alone;
      codes = codes_in (leaf_of r).list;
      reason = get_or r reason_column 0;
    }

abbrev pub row_line : Text → Bool → List ℕ → Text
row_line n alone r = as_line (chart_line (row_charted n alone r))

-- the lists of these that are asked for, as they are printed
abbrev pub asked_lines : Text → ℕ → ℕ → List Charted → Text
asked_lines name f k cs = lines_of (keep (is_asked name f k) cs)

-- of the row that the first of these numbers are, in a segment with that name
abbrev pub row_lines : Text → ℕ → ℕ → Text → Bool → List ℕ → Text
row_lines name f k n alone r = asked_lines name f k (row_lists n (get_or r field_column 0) alone (listed_of r))
