-- What a loop over a segment's fields keeps: the first broken check, told from where it stands.
use mathlib.Core.Path.{◌≡◌, refl, sym, ap, ◌∙◌}
use Prim.Native.Nat.{ℕ, ◌+◌, ◌-◌, ◌≤◌, ◌<◌, min}
use native.Mathlib.Omega.{arith}
use mathlib.Core.List.{List, flat_map}
use lib.ListN.{length, get_or}
use Rattle.std.specs.Prelude.{Result, Ok, Err}
use Rattle.text.specs.Bytes.{Text, within}
use Rattle.text.specs.declared.marks.Marks.{Marks}
use Rattle.cursor.specs.Cursor.{IsPiece}
use Rattle.cursor.specs.declared.Cursor.{Cursor}
use Rattle.profile.specs.Numbers.{row_size, field_column, fields_before, fields_from, table_of}
use Rattle.text.specs.declared.span.Span.{Span}
use Rattle.codes.specs.Inner.{Under, rule_at}
use Rattle.checks.specs.View.{Field, field_seen, segment_seen}
use Rattle.checks.specs.Fault.{Verdict, field_checks, first_broken}
use Rattle.leaves.proofs.Breaks.{or_else, broken-append}
use Rattle.listing.specs.Listing.{HasNumber}
use Rattle.located.proofs.FieldText.{before-field, field_at}
use Rattle.usage.proofs.SegmentFields.{Left, seen_from, left-first, seen_all, Ahead, ahead-number, ahead-field, ahead-later, left-on, seen-on, seen_none}
use Rattle.segments.specs.declared.Finding.{Finding}
use Rattle.segments.specs.Judged.{told_at, ReadsFieldAt, ReadsSegment}
use Rattle.segments.proofs.FieldChecks.{FieldText}

-- a segment's fields, and the first broken check of some of them
abbrev all_of : List ℕ → Marks → Text → List Field
all_of table q s = (segment_seen (table_of table) q s).fields

abbrev broken_in : List ℕ → Marks → Text → Text → ℕ → List Field → Verdict
broken_in table q s n o vs = first_broken (flat_map (field_checks q n o (all_of table q s)) vs)

pub record Reading (table : List ℕ) (q : Marks) (s : Text) (k last : ℕ) (fields : Text) (cursor : Cursor) (at : ℕ) : Type 0 where
  pub numbered : HasNumber s k
  pub left : Left table k at last
  pub piece : IsPiece q.field fields cursor
  pub low : row_size ≤ last - at → cursor.number ≤ get_or table (at + field_column) 0 - fields_before k
  pub rest : (n : Text) (o : ℕ) → broken_in table q s n o (all_of table q s) ≡ broken_in table q s n o (seen_from table q s at last)

pub reading-first : {table : List ℕ} {q : Marks} {s : Text} {k : ℕ} {r : Span} {fields : Text} {cursor : Cursor} → HasNumber s k → Under table k r
    → IsPiece q.field fields cursor × (cursor.number ≡ 1) → Reading table q s k r.end fields cursor r.start
reading-first {table} {q} {s} {k} {r} h u p =
    let l = left-first u in
    let number = get_or table (r.start + field_column) 0 in
    record {
      numbered = h;
      left = l;
      piece = p.0;
      low = λ more. omega (arith, p.1, before-field k number (ahead-number (record { left = l; more = more; is = refl })));
      rest = λ n o. ap (broken_in table q s n o) (seen_all q s h u);
    }

-- A FIELD IS AHEAD, and the cursor has been moved to it
module _ {table : List ℕ} {q : Marks} {s : Text} {k last : ℕ} {fields : Text} {cursor : Cursor} {at e : ℕ} (w : Reading table q s k last fields cursor at) (a : Ahead table k at last e)
    {b : ℕ} (before : b ≡ fields_before k) where
  abbrev number : ℕ
  number = get_or table (at + field_column) 0

  pub low-number : (b ≤ number) × (cursor.number ≤ number - b)
  low-number = (omega (arith, before, before-field k number (ahead-number a)), omega (arith, before, w.low a.more))

  module _ {c : Cursor} (moved : IsPiece q.field fields c × (c.number ≡ number - b)) where
    pub text-there : {skip : ℕ} → skip ≡ min (fields_from k) (length s) → fields ≡ within skip (length s) s → FieldText q table s k at e (within c.start c.end fields)
    text-there {skip} from is =
        record {
          numbered = w.numbered;
          rows = ahead-field a;
          text = rw is (field_at s k w.numbered number (ahead-number a) q skip b c from before (rw is at moved.0) moved.1);
        }

    -- the next field's checks, then those of the rest
    next : (r : Result Unit Finding) → ReadsFieldAt q table s at e r → (n : Text) (o : ℕ)
        → broken_in table q s n o (all_of table q s) ≡ or_else (told_at n o r) (broken_in table q s n o (seen_from table q s e last))
    unfolding flat_map
    next r judged n o =
        let cs = field_checks q n o (all_of table q s) in
        let v = field_seen (table_of table) q s (rule_at table at e) in
        w.rest n o
        ∙ ap (broken_in table q s n o) (seen-on a q s)
        ∙ broken-append (cs v) (flat_map cs (seen_from table q s e last))
        ∙ ap (λ (x : Verdict). or_else x (broken_in table q s n o (seen_from table q s e last))) (sym (judged n o))

    pub reading-found : (r : Finding) → ReadsFieldAt q table s at e (Err r) → ReadsSegment q (table_of table) s (Err r)
    reading-found r judged n o = sym (next (Err r) judged n o)

    pub reading-on : ReadsFieldAt q table s at e (Ok tt) → Reading table q s k last fields c e
    reading-on judged =
        record {
          numbered = w.numbered;
          left = left-on a;
          piece = moved.0;
          low = λ l. omega (arith, before, moved.1, ahead-later a l);
          rest = λ n o. next (Ok tt) judged n o;
        }

pub reading-none : {table : List ℕ} {q : Marks} {s : Text} {k last : ℕ} {fields : Text} {cursor : Cursor} {at : ℕ} → Reading table q s k last fields cursor at → last - at < row_size
    → ReadsSegment q (table_of table) s (Ok tt)
unfolding flat_map first_broken
reading-none {table} {q} {s} {last = last} {at = at} w l n o = sym (w.rest n o ∙ ap (broken_in table q s n o) (seen_none table at last q s l))
