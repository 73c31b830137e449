-- `missing_leaves`: the first required leaf is told from where the loop stands.
use Prim.Native.Nat.{◌-◌}
use Rattle.leaves.proofs.LeafByLeaf.{Search}
use Rattle.leaves.proofs.repetition.missing_leaves.Given as goal

abbrev pub invariant-loop-at : goal.invariant-loop-at
invariant-loop-at l = Search l.table l.initial.at l.end l.at

abbrev pub decreases-loop-at : goal.decreases-loop-at
decreases-loop-at l = l.end - l.at
