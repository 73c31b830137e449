-- `next_listed`: the listed segments are told from where the walk stands.
use Rattle.listing.proofs.NextListed.{passed-listed, passed-other, passed-short, passed-all}
use Rattle.listing.proofs.next_listed.Goals as goal
use Rattle.listing.proofs.next_listed.Goals.{else-end-start-ge3, then-end-start-ge3+else-number-ne0}

pub returns-then-number-ne0 : goal.returns-then-number-ne0
returns-then-number-ne0 c =
    passed-listed c.loop-end.invariant c.loop-end-test.true c.if-end-start-ge3.true c.segment_number-number.ensures c.if-number-ne0.true

pub loop-end-preserved : goal.loop-end-preserved
loop-end-preserved c = elim c.if-end-start-ge3.branch [
  | then-end-start-ge3+else-number-ne0 w ↦ passed-other c.loop-end.invariant c.loop-end-test.true w.if-end-start-ge3.true
      w.segment_number-number.ensures w.if-number-ne0.false c.far_end-end-in-loop-end.ensures
  | else-end-start-ge3 w ↦ passed-short c.loop-end.invariant c.loop-end-test.true w.if-end-start-ge3.false c.far_end-end-in-loop-end.ensures
]

pub returns : goal.returns
returns c = passed-all c.loop-end.invariant c.loop-end-test.false
