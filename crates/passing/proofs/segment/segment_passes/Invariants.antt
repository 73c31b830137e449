-- `segment_passes`: nothing is broken before the row where the loop stands.
use Prim.Native.Nat.{◌-◌}
use Rattle.segments.proofs.SegmentReading.{Reading}
use Rattle.passing.proofs.segment.segment_passes.Given as goal

abbrev pub invariant-loop-at : goal.invariant-loop-at
invariant-loop-at l = Reading l.table l.q l.s l.k l.last l.fields l.cursor l.at

abbrev pub decreases-loop-at : goal.decreases-loop-at
decreases-loop-at l = l.last - l.at
