-- `fault_line`: the word, the place, the condition, the reason.
use borrow.Author.Rules.{rules}
use Rattle.text.specs.Writes.{Writes}
use Rattle.text.proofs.Writes.{writes-both}
use Rattle.reader.specs.Told.{place_of}
use Rattle.line.specs.Line.{fault_line, as_line}
use Rattle.line.proofs.Lines.{fault-written}
use Rattle.line.proofs.fault_line.Goals as goal

pub returns : goal.returns
returns c =
    let h : Writes _ (as_line (fault_line (place_of c.args.f.place) c.args.f.reason)) c.put-2.new.self =
    rw (c.from.ensures, c.condition.ensures, c.from-2.ensures, c.number.ensures, fault-written (place_of c.args.f.place) c.args.f.reason) at
    (writes-both (writes-both (writes-both (writes-both c.put.ensures c.put_place.ensures.writes) c.put_number.ensures.writes)
    c.put_number-2.ensures.writes) c.put-2.ensures) in
    search rules
