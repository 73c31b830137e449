-- `put_number`: a blank, then the digits.
use native.Mathlib.Omega.{arith}
use Rattle.text.proofs.Puts.{puts-length}
use Rattle.text.proofs.Digits.{decimal-length, decimal-ends}
use Rattle.text.proofs.Writes.{writes-both}
use Rattle.line.proofs.put_number.Goals as goal

pub put_decimal-requires : goal.put_decimal-requires
put_decimal-requires c = omega (arith, decimal-length c.args.n, puts-length c.put.ensures.puts)

pub returns : goal.returns
returns c = let h = writes-both c.put.ensures c.put_decimal.ensures in
    record { writes = h; short = omega (arith, decimal-ends _ c.put_decimal.ensures.puts, c.put.ensures.puts.ends); stays = puts-length h.puts }
