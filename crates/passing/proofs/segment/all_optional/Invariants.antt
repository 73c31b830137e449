-- `all_optional`: every segment with no byte in its fields passes so far.
use Prim.Native.Nat.{◌-◌}
use Rattle.passing.proofs.Bare.{Bare}
use Rattle.passing.proofs.segment.all_optional.Given as goal

abbrev pub invariant-loop-at : goal.invariant-loop-at
invariant-loop-at l = Bare l.table l.k l.last l.at

abbrev pub decreases-loop-at : goal.decreases-loop-at
decreases-loop-at l = l.last - l.at
