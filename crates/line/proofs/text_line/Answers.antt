-- `text_line`: the word, then the two numbers.
use borrow.Author.Rules.{rules}
use Rattle.text.specs.Writes.{Writes}
use Rattle.text.proofs.Writes.{writes-both}
use Rattle.line.specs.Line.{text_line, as_line}
use Rattle.line.proofs.Lines.{text-written}
use Rattle.line.proofs.text_line.Goals as goal

pub returns : goal.returns
returns c =
    let h : Writes _ (as_line (text_line c.args.s.start c.args.s.end)) c.put-2.new.self =
    rw (text-written c.args.s.start c.args.s.end) at
    (writes-both (writes-both (writes-both c.put.ensures c.put_number.ensures.writes) c.put_number-2.ensures.writes) c.put-2.ensures) in
    search rules
