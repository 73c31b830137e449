-- `read_repetition`: whether the repetition is filled and its first broken check are told from where the loop stands.
use Prim.Native.Nat.{◌-◌}
use Rattle.leaves.proofs.LeafByLeaf.{Reading}
use Rattle.leaves.proofs.repetition.read_repetition.Given as goal

abbrev pub invariant-loop-at : goal.invariant-loop-at
invariant-loop-at l = Reading l.s l.q l.table l.initial.at l.end l.found l.cursor l.at

abbrev pub decreases-loop-at : goal.decreases-loop-at
decreases-loop-at l = l.end - l.at
