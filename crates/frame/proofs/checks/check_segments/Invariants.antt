-- `check_segments`: the three tests, told from the segments that are left.
use mathlib.Core.Path.{◌≡◌}
use Rattle.text.specs.Marks.{marks_of}
use Rattle.parts.specs.Split.{ended}
use Rattle.frame.proofs.Walk.{Walked}
use Rattle.frame.proofs.checks.check_segments.Given as goal

abbrev pub invariant-loop-s : goal.invariant-loop-s
invariant-loop-s l = (l.q ≡ marks_of l.m) × Walked l.m l.second l.count (ended l.s-iterator.sep l.s-iterator.rest.now)
