-- A segment with no byte in its fields: no field of it is filled, and where none is required nothing is broken.
use mathlib.Core.Path.{◌≡◌, refl}
use Prim.Native.Nat.{ℕ, zero, suc, ◌+◌, ◌-◌, ◌≤◌, ◌<◌, min}
use native.Mathlib.Omega.{arith}
use mathlib.Core.List.{List, []}
use lib.ListN.{length, get_or}
use Rattle.text.specs.Bytes.{Text, within}
use Rattle.text.specs.declared.marks.Marks.{Marks}
use Rattle.parts.specs.Split.{split}
use Rattle.parts.specs.Start.{before}
use Rattle.cursor.specs.Cursor.{IsPiece}
use Rattle.cursor.proofs.Moving.{cursor}
use Rattle.profile.specs.Numbers.{row_size, field_column, usage_column, fields_before, fields_from}
use Rattle.text.specs.declared.span.Span.{Span}
use Rattle.codes.specs.Inner.{Under}
use Rattle.listing.specs.Listing.{HasNumber}
use Rattle.located.proofs.FieldText.{before-field}
use Rattle.usage.proofs.SegmentFields.{Left, left-first, Ahead, ahead-number, left-on}
use Rattle.segments.proofs.FieldChecks.{usage-none, none_passes}
use Rattle.segments.proofs.SegmentReading.{Reading, reading-first, text-there, reading-on, reading-none}
use Rattle.passing.specs.Bare.{BarePasses}

-- each piece of no bytes is empty
piece-none : (sep n : ℕ) → 1 ≤ n → IsPiece sep [] (cursor n 0 0)
unfolding split before
piece-none sep zero h = absurd (omega arith)
piece-none sep (suc zero) h = record { from = h; starts = refl; ends = refl }
piece-none sep (suc (suc n)) h = record { from = h; starts = refl; ends = refl }

no_fields : (k : ℕ) (s : Text) → length s ≤ fields_from k → [] ≡ within (min (fields_from k) (length s)) (length s) s
no_fields k s h =
    let z : length s - min (fields_from k) (length s) ≡ 0 = omega arith in
    rw z

-- of every such segment the reading stands there
pub record Bare (table : List ℕ) (k last at : ℕ) : Type 0 where
  pub left : Left table k at last
  pub reading : (q : Marks) (s : Text) → HasNumber s k → length s ≤ fields_from k → Reading table q s k last [] (cursor 1 0 0) at

pub bare_first : {table : List ℕ} {k : ℕ} {r : Span} → Under table k r → Bare table k r.end r.start
bare_first u = record { left = left-first u; reading = λ q s h l. reading-first h u (piece-none q.field 1 (omega arith), refl) }

module _ {table : List ℕ} {k last at e : ℕ} (w : Bare table k last at) (a : Ahead table k at last e) (optional : get_or table (at + usage_column) 0 ≡ 0) where
  abbrev number : ℕ
  number = get_or table (at + field_column) 0

  -- the cursor stands at the field, and before the next one at the first again
  stands : (q : Marks) (s : Text) → HasNumber s k → length s ≤ fields_from k → Reading table q s k last [] (cursor (number - fields_before k) 0 0) e
  stands q s h l =
      let r = w.reading q s h l in
      let moved : IsPiece q.field [] (cursor (number - fields_before k) 0 0) × (number - fields_before k ≡ number - fields_before k) =
      (piece-none q.field (number - fields_before k) (omega (arith, before-field k number (ahead-number a))), refl)
      in
      let none = none_passes (text-there r a refl moved refl (no_fields k s l)) refl (usage-none (get_or table (at + usage_column) 0) _ optional) in
      reading-on r a refl moved none

  pub bare_on : Bare table k last e
  bare_on =
      record {
        left = left-on a;
        reading = λ q s h l.
            let r = stands q s h l in
            record {
              numbered = h;
              left = left-on a;
              piece = piece-none q.field 1 (omega arith);
              low = λ more. omega (arith, before-field k (get_or table (e + field_column) 0) (ahead-number (record { left = left-on a; more = more; is = refl })));
              rest = r.rest;
            };
      }

pub bare_none : {table : List ℕ} {k last at : ℕ} → Bare table k last at → last - at < row_size → BarePasses table k
bare_none w l q s h m = reading-none (w.reading q s h m) l
