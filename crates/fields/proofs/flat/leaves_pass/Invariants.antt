-- `leaves_pass`: nothing is broken before the row where the loop stands.
use Prim.Native.Nat.{◌-◌}
use Rattle.std.specs.Prelude.{None}
use Rattle.leaves.proofs.LeafByLeaf.{Reading}
use Rattle.fields.proofs.flat.leaves_pass.Given as goal

abbrev pub invariant-loop-at : goal.invariant-loop-at
invariant-loop-at l = Reading l.s l.q l.table l.initial.at l.end (record { filled = l.filled; broken = None }) l.cursor l.at

abbrev pub decreases-loop-at : goal.decreases-loop-at
decreases-loop-at l = l.end - l.at
