-- `is_filled`: whether one of the listed fields is that one and filled, told from the row where the loop stands.
use Prim.Native.Nat.{◌-◌}
use Rattle.usage.proofs.SegmentFields.{Seeks}
use Rattle.usage.proofs.is_filled.Given as goal

abbrev pub invariant-loop-at : goal.invariant-loop-at
invariant-loop-at l = Seeks l.table l.q l.s l.k l.number l.at l.last

abbrev pub decreases-loop-at : goal.decreases-loop-at
decreases-loop-at l = l.last - l.at
