-- `put_place`: the name, then number by number.
use native.Mathlib.Omega.{arith}
use Rattle.text.proofs.Writes.{writes-both, writes-length}
use Rattle.report.proofs.ErrorLaws.{place-written, place_length}
use Rattle.report.proofs.put_place.Goals as goal

pub put-requires : goal.put-requires
put-requires c = omega (arith, place_length c.args.p)

pub put_number-requires : goal.put_number-requires
put_number-requires c = omega (arith, place_length c.args.p, writes-length c.put.ensures)

pub put_number-requires-2 : goal.put_number-requires-2
put_number-requires-2 c = omega (arith, place_length c.args.p, writes-length c.put.ensures, writes-length c.put_number.ensures)

pub put_number-requires-3 : goal.put_number-requires-3
put_number-requires-3 c = omega (arith, place_length c.args.p, writes-length c.put.ensures, writes-length c.put_number.ensures, writes-length c.put_number-2.ensures)

pub put_number-requires-4 : goal.put_number-requires-4
put_number-requires-4 c = omega (arith, place_length c.args.p, writes-length c.put.ensures, writes-length c.put_number.ensures, writes-length c.put_number-2.ensures, writes-length c.put_number-3.ensures)

pub put_number-requires-5 : goal.put_number-requires-5
put_number-requires-5 c = omega (arith, place_length c.args.p, writes-length c.put.ensures, writes-length c.put_number.ensures, writes-length c.put_number-2.ensures, writes-length c.put_number-3.ensures, writes-length c.put_number-4.ensures)

pub returns : goal.returns
returns c = rw (place-written c.args.p) at
    (writes-both c.put.ensures (writes-both c.put_number.ensures (writes-both c.put_number-2.ensures
    (writes-both c.put_number-3.ensures (writes-both c.put_number-4.ensures c.put_number-5.ensures)))))
