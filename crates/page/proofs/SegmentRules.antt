-- The lines of a segment's fields, told from the field where the loop stands.
use mathlib.Core.Path.{◌≡◌, refl, sym, ap, ◌∙◌}
use Prim.Native.Nat.{ℕ, ◌+◌, ◌-◌, ◌≤◌, ◌<◌}
use native.Mathlib.Omega.{arith}
use mathlib.Core.Bool.{Bool, false}
use mathlib.Core.List.{List, [], ◌∷◌, ◌++◌, map, flat_map}
use lib.ListN.{length, get_or}
use borrow.Author.Tests.{eq-eqb}
use Rattle.text.specs.Bytes.{Text, some, keep, same}
use Rattle.text.specs.declared.writer.Writer.{Writer}
use Rattle.text.specs.Writes.{Writes}
use Rattle.text.proofs.Lists.{or-none}
use Rattle.chart.proofs.CodeByCode.{writes_none}
use Rattle.profile.specs.Table.{Row, Rule, gathered, rules_of}
use Rattle.profile.specs.Numbers.{row_of, rows_within, row_size, segment_number, table_of}
use Rattle.profile.specs.Order.{Sound}
use Rattle.text.specs.declared.span.Span.{Span}
use Rattle.codes.specs.Inner.{Under, rule_at}
use Rattle.codes.proofs.RowSteps.{rows_none}
use Rattle.codes.proofs.OneField.{rules_at}
use Rattle.codes.proofs.Rules.{rules_under, listed-number}
use Rattle.usage.proofs.SegmentFields.{Left, left-first, Ahead, left-on}
use Rattle.chart.specs.Chart.{Charted, field_lists, segment_lists}
use Rattle.chart.specs.Inner.{asked_lines}
use Rattle.page.proofs.Putting.{Putting, putting-first, putting-room, putting-on, putting-end}
use Rattle.page.proofs.AskedLines.{asked-none, asked-more}

-- a name of three bytes is those three
three : (t : Text) → length t ≡ 3 → t ≡ get_or t 0 0 ∷ get_or t 1 0 ∷ get_or t 2 0 ∷ []
three [] e = absurd (omega arith)
three (a ∷ []) e = absurd (omega arith)
three (a ∷ b ∷ []) e = absurd (omega arith)
three (a ∷ b ∷ c ∷ []) e = refl
three (a ∷ b ∷ c ∷ d ∷ t) e = absurd (omega arith)

pub name-number : (n : Text) (k : ℕ) → length n ≡ 3 → k ≡ segment_number (get_or n 0 0 ∷ get_or n 1 0 ∷ get_or n 2 0 ∷ []) → segment_number n ≡ k
name-number n k l e = ap segment_number (three n l) ∙ sym e

-- the lists of the fields left
abbrev fields_left : List ℕ → Text → ℕ → ℕ → List Charted
fields_left table n end at = flat_map (field_lists n) (gathered (map (row_of n) (rows_within at end table)))

-- all of them
fields-all : {table : List ℕ} (n : Text) {k : ℕ} {r : Span} → segment_number n ≡ k → 1 ≤ k → Under table k r
    → segment_lists (table_of table) n ≡ fields_left table n r.end r.start
unfolding segment_lists
fields-all {table} n {k} e h u =
    ap (flat_map (field_lists n)) (rules_under table n k e h ∙ ap (λ (rs : List (List ℕ)). gathered (map (row_of n) rs)) (sym u.rows))

-- the next field, then the rest
field-lines : {table : List ℕ} {k at end e : ℕ} → Ahead table k at end e → (name : Text) (f c : ℕ) (n : Text)
    → asked_lines name f c (fields_left table n end at)
    ≡ asked_lines name f c (field_lists n (rule_at table at e)) ++ asked_lines name f c (fields_left table n end e)
unfolding flat_map
field-lines {table} {k} {at} {end} {e} w name f c n =
    ap (λ (us : List Rule). asked_lines name f c (flat_map (field_lists n) us)) (rules_at table at end e w.more w.left.inside w.is n)
    ∙ asked-more name f c (field_lists n (rule_at table at e)) (fields_left table n end e)

-- none is left
fields-end : (table : List ℕ) (n : Text) (end at : ℕ) (name : Text) (f c : ℕ) → end - at < row_size → asked_lines name f c (fields_left table n end at) ≡ []
unfolding flat_map gathered
fields-end table n end at name f c l = rw (rows_none table at end l) (asked-none name f c)

-- A SEGMENT THAT IS NOT LISTED has none
keep-none : {A : Type 0} (p : A → Bool) (l : List A) → some p l ≡ false → keep p l ≡ []
unfolding some keep
keep-none p [] e = refl
keep-none p (x ∷ l) e =
    let h = or-none (p x) (some p l) e in
    rw h.0 (keep-none p l h.1)

segment-none : {table : List ℕ} (n : Text) (name : Text) (f c : ℕ) → Sound table → segment_number n ≡ 0 → asked_lines name f c (segment_lists (table_of table) n) ≡ []
unfolding segment_lists rules_of flat_map gathered
segment-none {table} n name f c s e =
    let l : some (λ (r : Row). same r.segment n) (table_of table).rows ≡ false = listed-number table s n ∙ rw (eq-eqb (segment_number n) 0 e) in
    rw (keep-none (λ (r : Row). same r.segment n) (table_of table).rows l) (asked-none name f c)

pub puts-unlisted : (table : List ℕ) (n name : Text) (f c : ℕ) (before : Writer) → Sound table → segment_number n ≡ 0
    → before.at + length (asked_lines name f c (segment_lists (table_of table) n)) ≤ length before.out.now
    → Writes before (asked_lines name f c (segment_lists (table_of table) n)) before
puts-unlisted table n name f c before s e room = rw (segment-none n name f c s e) (writes_none before (omega arith))

-- THE LINES OF A SEGMENT: those of the fields passed stand there, and those of the fields left are still to be put
module _ (table : List ℕ) (n name : Text) (f c : ℕ) where
  pub record PutsFields (k end : ℕ) (before out : Writer) (first : ℕ) : Type 0 where
    pub left : Left table k first end
    pub putting : Putting before (asked_lines name f c (segment_lists (table_of table) n)) out (asked_lines name f c (fields_left table n end first))

module _ {table : List ℕ} {n name : Text} {f c k : ℕ} {before : Writer} where
  pub puts-fields-first : {r : Span} → segment_number n ≡ k → 1 ≤ k → Under table k r
      → before.at + length (asked_lines name f c (segment_lists (table_of table) n)) ≤ length before.out.now
      → PutsFields table n name f c k r.end before before r.start
  puts-fields-first e h u room =
      record { left = left-first u; putting = putting-first (ap (asked_lines name f c) (sym (fields-all n e h u))) room }

  module _ {end : ℕ} {out : Writer} {first : ℕ} (w : PutsFields table n name f c k end before out first) where
    pub field_room : {next : ℕ} → Ahead table k first end next → out.at + length (asked_lines name f c (field_lists n (rule_at table first next))) ≤ length out.out.now
    field_room {next} a =
        putting-room w.putting (asked_lines name f c (field_lists n (rule_at table first next))) (asked_lines name f c (fields_left table n end next))
        (field-lines a name f c n)

    pub puts-field : {next : ℕ} {after : Writer} → Ahead table k first end next
        → Writes out (asked_lines name f c (field_lists n (rule_at table first next))) after
        → PutsFields table n name f c k end before after next
    puts-field a p = record { left = left-on a; putting = putting-on w.putting (field-lines a name f c n) p }

    pub puts-fields : end - first < row_size → Writes before (asked_lines name f c (segment_lists (table_of table) n)) out
    puts-fields l = putting-end w.putting (fields-end table n end first name f c l)
