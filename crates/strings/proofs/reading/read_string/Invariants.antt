-- `read_string`: each turn reads on, and what it gave fits the memory.
use Prim.Native.Nat.{◌≤◌}
use lib.ListN.{length}
use Rattle.strings.proofs.reading.read_string.Given as goal

abbrev pub invariant-loop-rest : goal.invariant-loop-rest
invariant-loop-rest l = l.count ≤ length l.into

abbrev pub decreases-loop-rest : goal.decreases-loop-rest
decreases-loop-rest l = length l.rest
