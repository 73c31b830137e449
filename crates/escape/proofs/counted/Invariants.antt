-- `counted`: each step counts one byte.
use Rattle.std.proofs.Common.{length}
use Rattle.escape.proofs.Escapes.{Counted}
use Rattle.escape.proofs.counted.Given as goal

abbrev pub invariant-loop-after : goal.invariant-loop-after
invariant-loop-after l = Counted l.q l.t l.n l.rest

abbrev pub decreases-loop-after : goal.decreases-loop-after
decreases-loop-after l = length l.rest
