-- `occurrence_at`: the occurrence is told from where the count stands.
use Rattle.listing.proofs.Counted.{counted-more, counted-other}
use Rattle.listing.proofs.occurrence_at.Goals as goal
use Rattle.listing.proofs.occurrence_at.Goals.{else-is_namesake, then-is_namesake}

pub loop-at-preserved : goal.loop-at-preserved
loop-at-preserved c = elim c.if-is_namesake.branch [
  | then-is_namesake w ↦ counted-more c.loop-at.invariant c.requires.0 c.requires.1 c.loop-at-test.true c.far_end-end.ensures
      c.is_namesake.ensures w.if-is_namesake.true w.occurrence-is
  | else-is_namesake w ↦ counted-other c.loop-at.invariant c.requires.0 c.requires.1 c.loop-at-test.true c.far_end-end.ensures
      c.is_namesake.ensures w.if-is_namesake.false w.occurrence-is
]
