-- `all_optional`: every segment with no byte in its fields passes so far.
use Rattle.usage.proofs.SegmentFields.{ahead, ahead_falls}
use Rattle.passing.proofs.Bare.{bare_first, bare_on, bare_none}
use Rattle.passing.proofs.segment.all_optional.Goals as goal

pub loop-at-init : goal.loop-at-init
loop-at-init c = bare_first c.rows_under-rows.ensures

pub loop-at-smaller : goal.loop-at-smaller
loop-at-smaller c = ahead_falls (ahead c.loop-at.invariant.left c.loop-at-test.true c.next_field-at.ensures)

pub loop-at-preserved : goal.loop-at-preserved
loop-at-preserved c =
    bare_on c.loop-at.invariant (ahead c.loop-at.invariant.left c.loop-at-test.true c.next_field-at.ensures) c.if-table-at-ne-OPTIONAL.false

pub returns : goal.returns
returns c e = bare_none c.loop-at.invariant c.loop-at-test.false
