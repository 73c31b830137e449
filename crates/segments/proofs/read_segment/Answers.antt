-- `read_segment`: the first broken check of a segment's listed fields, told from the row where the loop stands.
use native.Mathlib.Omega.{arith}
use Rattle.frame.specs.Segments.{name}
use Rattle.cursor.proofs.Moving.{cursor-inside}
use mathlib.Core.Path.{refl}
use borrow.Author.Rules.{rules}
use Rattle.std.proofs.lemmas.Result.{err_from_is_err_and}
use Rattle.usage.proofs.SegmentFields.{ahead, ahead_falls}
use Rattle.codes.proofs.Numbered.{named-number}
use Rattle.segments.proofs.SegmentReading.{reading-first, text-there, reading-found, reading-on, reading-none}
use Rattle.segments.proofs.read_segment.Goals as goal

pub rows_under-rows-requires : goal.rows_under-rows-requires
rows_under-rows-requires c = (c.requires.0, (c.requires.1.1, omega (arith, (named-number (name c.args.s.now) c.args.k c.requires.1.0 c.requires.1.1).0)))

pub loop-at-init : goal.loop-at-init
loop-at-init c = reading-first c.requires.1 c.rows_under-rows.ensures c.first_piece-cursor.ensures

pub slice_bounds-text-end : goal.slice_bounds-text-end
slice_bounds-text-end c = omega (arith, cursor-inside _ _ _ c.advance-cursor.ensures.0)

pub field_passes-requires-clause-field : goal.field_passes-requires-clause-field
field_passes-requires-clause-field c =
    let there = text-there c.loop-at.invariant (ahead c.loop-at.invariant.left c.loop-at-test.true c.next_field-end.ensures) c.fields_before-before.ensures (rw c.from-number.ensures at c.advance-cursor.ensures) c.fields_start.ensures refl in
    (there.rows, there.text)

pub judge_field-requires-clause-field : goal.judge_field-requires-clause-field
judge_field-requires-clause-field c =
    let there = text-there c.loop-at.invariant (ahead c.loop-at.invariant.left c.loop-at-test.true c.next_field-end.ensures) c.fields_before-before.ensures (rw c.from-number.ensures at c.advance-cursor.ensures) c.fields_start.ensures refl in
    (there.rows, there.text)

pub returns-in_err-judge_field : goal.returns-in_err-judge_field
returns-in_err-judge_field c =
    let p = err_from_is_err_and c.from_residual.result c.from_residual.ensures.1 in
    rw (p.1, p.2)
    (reading-found c.loop-at.invariant (ahead c.loop-at.invariant.left c.loop-at-test.true c.next_field-end.ensures) c.fields_before-before.ensures
    (rw c.from-number.ensures at c.advance-cursor.ensures) c.in_err-judge_field.field-0.0 c.in_err-judge_field.ensures)

pub loop-at-smaller-in_ok-judge_field : goal.loop-at-smaller-in_ok-judge_field
loop-at-smaller-in_ok-judge_field c = ahead_falls (ahead c.loop-at.invariant.left c.loop-at-test.true c.next_field-end.ensures)

pub loop-at-preserved-in_ok-judge_field : goal.loop-at-preserved-in_ok-judge_field
loop-at-preserved-in_ok-judge_field c =
    reading-on c.loop-at.invariant (ahead c.loop-at.invariant.left c.loop-at-test.true c.next_field-end.ensures) c.fields_before-before.ensures (rw c.from-number.ensures at c.advance-cursor.ensures) c.in_ok-judge_field.ensures

pub loop-at-smaller : goal.loop-at-smaller
loop-at-smaller c = ahead_falls (ahead c.loop-at.invariant.left c.loop-at-test.true c.next_field-end.ensures)

pub loop-at-preserved : goal.loop-at-preserved
loop-at-preserved c =
    reading-on c.loop-at.invariant (ahead c.loop-at.invariant.left c.loop-at-test.true c.next_field-end.ensures) c.fields_before-before.ensures (rw c.from-number.ensures at c.advance-cursor.ensures)
    (c.field_passes.ensures (search rules))

pub returns : goal.returns
returns c = reading-none c.loop-at.invariant c.loop-at-test.false
