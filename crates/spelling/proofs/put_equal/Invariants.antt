-- `put_equal`: every byte so far was put in the same buffer.
use Rattle.spelling.specs.Kept.{KeepsBuffer}
use Rattle.spelling.proofs.put_equal.Given as goal

abbrev pub invariant-loop-b : goal.invariant-loop-b
invariant-loop-b l = KeepsBuffer l.initial.w l.w
