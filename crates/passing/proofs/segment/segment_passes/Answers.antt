-- `segment_passes`: nothing is broken before the row where the loop stands.
use mathlib.Core.Path.{refl, sym, ◌∙◌}
use native.Mathlib.Omega.{arith}
use lib.ListN.{length}
use borrow.Author.Tests.{eqb-true, ltb-true}
use Rattle.std.proofs.lemmas.List.{nil_from_length}
use Rattle.text.proofs.Tests.{not-true}
use Rattle.frame.specs.Segments.{name}
use Rattle.cursor.proofs.Moving.{cursor-inside}
use Rattle.parts.proofs.Descent.{within-length}
use Rattle.codes.proofs.Numbered.{named-number}
use Rattle.usage.proofs.SegmentFields.{ahead, ahead_falls}
use Rattle.segments.proofs.FieldChecks.{usage-none, none_passes}
use Rattle.segments.proofs.SegmentReading.{reading-first, text-there, reading-on, reading-none}
use Rattle.fields.proofs.FlatField.{flat-within}
use Rattle.passing.proofs.segment.segment_passes.Goals as goal
use Rattle.passing.proofs.segment.segment_passes.Goals.{then-fields-lt-LONG, else-fields-lt-LONG}
use Rattle.passing.proofs.segment.segment_passes.Goals.{then-is_empty-2+then-table-at-eq-OPTIONAL, then-is_empty-2+else-table-at-eq-OPTIONAL, else-is_empty-2+then-flat, else-is_empty-2+else-flat}

pub all_optional-requires : goal.all_optional-requires
all_optional-requires c = (c.requires.0, (c.requires.1.1, omega (arith, (named-number (name c.args.s.now) c.args.k c.requires.1.0 c.requires.1.1).0)))

pub rows_under-rows-requires : goal.rows_under-rows-requires
rows_under-rows-requires c = (c.requires.0, (c.requires.1.1, omega (arith, (named-number (name c.args.s.now) c.args.k c.requires.1.0 c.requires.1.1).0)))

pub loop-at-init : goal.loop-at-init
loop-at-init c = reading-first c.requires.1 c.rows_under-rows.ensures c.first_piece-cursor.ensures

pub slice_bounds-text-end : goal.slice_bounds-text-end
slice_bounds-text-end c = omega (arith, cursor-inside _ _ _ c.advance-cursor.ensures.0)

pub text_passes-requires-clause-field : goal.text_passes-requires-clause-field
text_passes-requires-clause-field c =
    let there = text-there c.loop-at.invariant (ahead c.loop-at.invariant.left c.loop-at-test.true c.next_field-end.ensures) c.fields_before-before.ensures
    (rw c.from-number.ensures at c.advance-cursor.ensures) c.fields_start.ensures refl in
    (there.rows, there.text)

pub text_passes-requires-clause-flat : goal.text_passes-requires-clause-flat
text_passes-requires-clause-flat c =
    flat-within c.args.q c.advance-cursor.result.start c.advance-cursor.result.end _
    (elim c.if-fields-lt-LONG.branch [
      | then-fields-lt-LONG w ↦ sym w.is_flat-flat.ensures ∙ sym w.flat-is ∙ c.if-flat.true
      | else-fields-lt-LONG w ↦ absurd (omega (arith, w.if-fields-lt-LONG.false, ltb-true _ _ (sym w.flat-is ∙ c.if-flat.true)))
    ])

pub loop-at-smaller : goal.loop-at-smaller
loop-at-smaller c = ahead_falls (ahead c.loop-at.invariant.left c.loop-at-test.true c.next_field-end.ensures)

pub loop-at-preserved : goal.loop-at-preserved
loop-at-preserved c =
    let here = ahead c.loop-at.invariant.left c.loop-at-test.true c.next_field-end.ensures in
    let moved = rw c.from-number.ensures at c.advance-cursor.ensures in
    reading-on c.loop-at.invariant here c.fields_before-before.ensures moved
    (elim c.if-is_empty-2.branch [
      | then-is_empty-2+then-table-at-eq-OPTIONAL w ↦
          none_passes (text-there c.loop-at.invariant here c.fields_before-before.ensures moved c.fields_start.ensures refl) (nil_from_length _ (eqb-true _ _ (sym c.is_empty-in-loop-at.ensures ∙ w.if-is_empty-2.true))) (usage-none _ _ w.if-table-at-eq-OPTIONAL.true)
      | then-is_empty-2+else-table-at-eq-OPTIONAL w ↦
          none_passes (text-there c.loop-at.invariant here c.fields_before-before.ensures moved c.fields_start.ensures refl) (nil_from_length _ (eqb-true _ _ (sym c.is_empty-in-loop-at.ensures ∙ w.if-is_empty-2.true))) (w.may_be_empty.ensures (sym w.passes-is ∙ c.if-not-passes.false))
      | else-is_empty-2+then-flat w ↦ w.text_passes.ensures (sym w.passes-is ∙ c.if-not-passes.false)
      | else-is_empty-2+else-flat w ↦ not-true (sym w.if-flat.false ∙ sym w.passes-is ∙ c.if-not-passes.false)
    ])

pub returns-then-is_empty : goal.returns-then-is_empty
returns-then-is_empty c e = c.all_optional.ensures e c.args.q c.args.s.now c.requires.1
    (omega (
      arith,
      c.fields_start.ensures,
      eqb-true _ _ (sym c.is_empty.ensures ∙ c.if-is_empty.true),
      within-length c.args.s.now c.fields_start.result (length c.args.s.now) (omega (arith, c.fields_start.ensures)) (omega arith),
    ))

pub returns : goal.returns
returns c e = reading-none c.loop-at.invariant c.loop-at-test.false
