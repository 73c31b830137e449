-- `put_fault`: the segment's name, the place, the condition, the severity.
use native.Mathlib.Omega.{arith}
use Rattle.text.proofs.Writes.{writes-both, writes-length}
use lib.ListN.{length}
use mathlib.Core.Path.{ap}
use Rattle.reader.specs.Told.{place_of}
use Rattle.report.proofs.ErrorLaws.{error_written, error_length}
use Rattle.report.proofs.put_fault.Goals as goal

pub put-requires : goal.put-requires
put-requires c = omega (arith, error_length (place_of c.args.f.place) c.args.f.reason)

pub put_place-requires : goal.put_place-requires
put_place-requires c = omega (arith, error_length (place_of c.args.f.place) c.args.f.reason, writes-length c.put.ensures)

pub put-requires-2 : goal.put-requires-2
put-requires-2 c = omega (arith, error_length (place_of c.args.f.place) c.args.f.reason, writes-length c.put.ensures, writes-length c.put_place.ensures)

pub put-requires-3 : goal.put-requires-3
put-requires-3 c = omega (arith, error_length (place_of c.args.f.place) c.args.f.reason, writes-length c.put.ensures, writes-length c.put_place.ensures, writes-length c.put-2.ensures, ap length c.condition_words.ensures)

pub put-requires-4 : goal.put-requires-4
put-requires-4 c = omega (arith, error_length (place_of c.args.f.place) c.args.f.reason, writes-length c.put.ensures, writes-length c.put_place.ensures, writes-length c.put-2.ensures, writes-length c.put-3.ensures, ap length c.condition_words.ensures)

pub returns : goal.returns
returns c = rw (c.condition_words.ensures, error_written (place_of c.args.f.place) c.args.f.reason) at
    (writes-both c.put.ensures (writes-both c.put_place.ensures (writes-both c.put-2.ensures (writes-both c.put-3.ensures c.put-4.ensures))))
