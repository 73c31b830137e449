-- `read_in`: the fields one after another; whether it is a slip, and the tag's value, are told from the field that comes next.
use Rattle.book.proofs.ReadSlip.{ReadTo}
use Rattle.book.proofs.reading.read_in.Given as goal

abbrev pub invariant-loop-k : goal.invariant-loop-k
invariant-loop-k l = ReadTo l.s l.base l.tag l.found l.at l.k
