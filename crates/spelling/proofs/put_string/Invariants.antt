-- `put_string`: every run so far was put in the same buffer.
use Rattle.spelling.specs.Kept.{KeepsBuffer}
use Rattle.spelling.proofs.put_string.Given as goal

abbrev pub invariant-loop-equal : goal.invariant-loop-equal
invariant-loop-equal l = KeepsBuffer l.initial.w l.w
