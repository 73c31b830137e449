-- `put_reason`: the words, one after another.
use mathlib.Core.Path.{refl}
use native.Mathlib.Omega.{arith}
use Rattle.text.proofs.Writes.{writes-both, writes-length}
use Rattle.chart.proofs.Lines.{reason-written, reason-length}
use Rattle.chart.proofs.row.put_reason.Goals as goal

pub put-requires : goal.put-requires
put-requires c = omega (arith, reason-length c.args.reason _ refl)

pub put_decimal-requires : goal.put_decimal-requires
put_decimal-requires c = omega (arith, reason-length c.args.reason _ refl, writes-length c.put.ensures)

pub put-requires-2 : goal.put-requires-2
put-requires-2 c = omega (arith, reason-length c.args.reason _ refl, writes-length c.put.ensures, writes-length c.put_decimal.ensures)

pub put_decimal-requires-2 : goal.put_decimal-requires-2
put_decimal-requires-2 c = omega (arith, reason-length c.args.reason _ c.condition.ensures, writes-length c.put.ensures, writes-length c.put_decimal.ensures, writes-length c.put-2.ensures)

pub put-requires-3 : goal.put-requires-3
put-requires-3 c = omega (arith, reason-length c.args.reason _ c.condition.ensures, writes-length c.put.ensures, writes-length c.put_decimal.ensures, writes-length c.put-2.ensures, writes-length c.put_decimal-2.ensures)

pub returns : goal.returns
returns c = rw (reason-written c.args.reason, ← c.condition.ensures)
    (writes-both c.put.ensures (writes-both c.put_decimal.ensures (writes-both c.put-2.ensures (writes-both c.put_decimal-2.ensures c.put-3.ensures))))
