-- `put_place`: the name, the field and, unless the leaf is alone, the component.
use native.Mathlib.Omega.{arith}
use Rattle.text.proofs.Writes.{writes-both, writes-length}
use Rattle.chart.proofs.CodeByCode.{writes_none}
use Rattle.chart.proofs.Lines.{place-written, among_length}
use Rattle.chart.proofs.row.put_place.Goals as goal

pub returns-then-r : goal.returns-then-r
returns-then-r c = rw (place-written c.args.r.segment.now c.args.r.alone c.args.r.table.now c.args.r.start, c.if-r.true)
    (writes-both c.put.ensures (writes-both c.put-2.ensures (writes-both c.put_decimal.ensures
    (writes_none _ (omega (arith, c.put_decimal.ensures.puts.ends, c.put_decimal.ensures.puts.room, writes-length c.put_decimal.ensures))))))

pub put-requires-3 : goal.put-requires-3
put-requires-3 c = omega (
  arith,
  among_length c.args.r.segment.now c.args.r.alone c.args.r.table.now c.args.r.start c.if-r.false,
  writes-length c.put.ensures,
  writes-length c.put-2.ensures,
  writes-length c.put_decimal.ensures,
)

pub put_decimal-requires-2 : goal.put_decimal-requires-2
put_decimal-requires-2 c = omega (
  arith,
  among_length c.args.r.segment.now c.args.r.alone c.args.r.table.now c.args.r.start c.if-r.false,
  writes-length c.put.ensures,
  writes-length c.put-2.ensures,
  writes-length c.put_decimal.ensures,
  writes-length c.put-3.ensures,
)

pub returns : goal.returns
returns c = rw (place-written c.args.r.segment.now c.args.r.alone c.args.r.table.now c.args.r.start, c.if-r.false)
    (writes-both c.put.ensures (writes-both c.put-2.ensures (writes-both c.put_decimal.ensures (writes-both c.put-3.ensures c.put_decimal-2.ensures))))
