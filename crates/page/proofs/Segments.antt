-- The lines of all segments, one after another.
use mathlib.Core.Path.{◌≡◌, refl, sym, ap, ◌∙◌}
use Prim.Native.Nat.{ℕ, ◌+◌, ◌≤◌}
use mathlib.Core.List.{List, [], ◌∷◌, ◌++◌, map, flat_map}
use lib.ListN.{length}
use Rattle.text.specs.Bytes.{Text, keep, same}
use Rattle.text.specs.declared.writer.Writer.{Writer}
use Rattle.text.specs.Writes.{Writes}
use Rattle.profile.specs.Table.{Succession, gathered, rules_of}
use Rattle.profile.specs.Numbers.{segment_names, table_of, AreTable}
use Rattle.profile.specs.Noted.{noted}
use Rattle.profile.specs.Profile.{profile01}
use Rattle.profile.specs.Fields.{rows}
use Rattle.codes.proofs.Rules.{are_same_table}
use Rattle.chart.specs.Chart.{segment_lists, charted}
use Rattle.chart.specs.Inner.{asked_lines}
use Rattle.page.proofs.Putting.{Putting, putting-first, putting-room, putting-on, putting-end}
use Rattle.page.proofs.AskedLines.{asked-none, asked-more}

-- before the first segment stands none, and it has no list
no_segment : segment_lists profile01 [] ≡ []
unfolding segment_lists rules_of gathered profile01 rows noted keep same flat_map
no_segment = refl

names_are : map (λ (s : Succession). s.segment) profile01.succession ≡ [] ∷ segment_names
unfolding profile01
names_are = refl

module _ (name : Text) (f k : ℕ) where
  -- the lines of the segments with these names
  unfoldable pub lines_from : List Text → Text
  lines_from [] = []
  lines_from (n ∷ ns) = asked_lines name f k (segment_lists profile01 n) ++ lines_from ns

  lines-from : (ss : List Succession)
      → lines_from (map (λ (s : Succession). s.segment) ss) ≡ asked_lines name f k (flat_map (λ (s : Succession). segment_lists profile01 s.segment) ss)
  unfolding lines_from flat_map
  lines-from [] = sym (asked-none name f k)
  lines-from (s ∷ ss) =
      ap (λ (t : Text). asked_lines name f k (segment_lists profile01 s.segment) ++ t) (lines-from ss)
      ∙ sym (asked-more name f k (segment_lists profile01 s.segment) (flat_map (λ (s : Succession). segment_lists profile01 s.segment) ss))

  lines-all : lines_from segment_names ≡ asked_lines name f k (charted profile01)
  unfolding lines_from charted
  lines-all =
      ap (λ (t : Text). t ++ lines_from segment_names) (sym (ap (asked_lines name f k) no_segment ∙ asked-none name f k))
      ∙ ap lines_from (sym names_are)
      ∙ lines-from profile01.succession

-- THE LINES OF THE LISTS: those of the segments passed stand there, and those of the segments with these names are still to be put
pub record PutsSegments (name : Text) (f k : ℕ) (before out : Writer) (ns : List Text) : Type 0 where
  pub putting : Putting before (asked_lines name f k (charted profile01)) out (lines_from name f k ns)

pub puts-segments-first : {name : Text} {f k : ℕ} {before : Writer}
    → before.at + length (asked_lines name f k (charted profile01)) ≤ length before.out.now → PutsSegments name f k before before segment_names
puts-segments-first {name} {f} {k} h = record { putting = putting-first (lines-all name f k) h }

module _ {table : List ℕ} (are : AreTable table profile01) {name : Text} {f k : ℕ} {before out : Writer} {n : Text} {ns : List Text}
    (w : PutsSegments name f k before out (n ∷ ns)) where
  -- the next segment's lines, as the numbers tell them
  segment-lines : lines_from name f k (n ∷ ns) ≡ asked_lines name f k (segment_lists (table_of table) n) ++ lines_from name f k ns
  unfolding lines_from
  segment-lines = rw (are_same_table table profile01 are)

  pub segment-room : out.at + length (asked_lines name f k (segment_lists (table_of table) n)) ≤ length out.out.now
  segment-room = putting-room w.putting (asked_lines name f k (segment_lists (table_of table) n)) (lines_from name f k ns) segment-lines

  pub puts-segment : {after : Writer} → Writes out (asked_lines name f k (segment_lists (table_of table) n)) after → PutsSegments name f k before after ns
  puts-segment p = record { putting = putting-on w.putting segment-lines p }

pub puts-segments : {name : Text} {f k : ℕ} {before out : Writer} → PutsSegments name f k before out []
    → Writes before (asked_lines name f k (charted profile01)) out
unfolding lines_from
puts-segments w = putting-end w.putting refl
