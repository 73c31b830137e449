-- `asked_number`: the answer is told from where the loop stands.
use Rattle.asked.proofs.Read.{Read}
use Rattle.asked.proofs.asked_number.Given as goal

abbrev pub invariant-loop-b : goal.invariant-loop-b
invariant-loop-b l = Read l.t l.n l.b-index
