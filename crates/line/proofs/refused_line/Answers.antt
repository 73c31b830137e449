-- `refused_line`: three texts, one after another.
use native.Mathlib.Omega.{arith}
use borrow.Author.Rules.{rules}
use Rattle.text.specs.Writes.{Writes}
use Rattle.text.proofs.Puts.{puts-length}
use Rattle.text.proofs.Digits.{decimal-length, decimal-ends}
use Rattle.text.proofs.Writes.{writes-both}
use Rattle.line.specs.Line.{refused_line, as_line}
use Rattle.line.proofs.refused_line.Goals as goal

pub put_decimal-requires : goal.put_decimal-requires
put_decimal-requires c = omega (arith, decimal-length c.from-2.result, puts-length c.put.ensures.puts)

pub put-requires-2 : goal.put-requires-2
put-requires-2 c = omega (arith, decimal-ends _ c.put_decimal.ensures.puts, puts-length c.put_decimal.ensures.puts, c.put.ensures.puts.ends, puts-length c.put.ensures.puts)

pub returns : goal.returns
returns c =
    let h : Writes _ (as_line (refused_line c.args.r)) c.put-2.new.self =
    rw (c.from-2.ensures, c.from.ensures) at (writes-both (writes-both c.put.ensures c.put_decimal.ensures) c.put-2.ensures) in
    search rules
