-- `run`: the window stays in its memory.
use Rattle.std.proofs.Common.{length}
use Rattle.input.specs.Inside.{Inside}
use Rattle.replay.proofs.run.Given as goal

abbrev pub invariant-loop : goal.invariant-loop
invariant-loop g l = Inside l.w (length l.window)
