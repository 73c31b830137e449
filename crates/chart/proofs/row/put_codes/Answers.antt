-- `put_codes`: where the codes that are left are put, all are.
use mathlib.Core.List.{◌∷◌}
use native.Mathlib.Omega.{arith}
use lib.ListN.{length}
use Rattle.text.specs.Bytes.{byte}
use Rattle.text.proofs.Writes.{writes-both}
use Rattle.profile.specs.Codes.{leading_byte}
use Rattle.chart.proofs.Room.{room-first, room-rest}
use Rattle.chart.proofs.CodeByCode.{codes_led, writes_none, code-there, code-bytes, codes-rest, codes-led, codes-end}
use Rattle.chart.proofs.row.put_codes.Goals as goal

pub split_at-requires : goal.split_at-requires
split_at-requires c = code-there c.loop-number.left.now _ _ c.in-Some.ensures.cases.0 c.loop-number.invariant.are

pub put_code-requires-clause-bytes : goal.put_code-requires-clause-bytes
put_code-requires-clause-bytes c = code-bytes c.loop-number.left.now _ _ c.in-Some.ensures.cases.0 c.loop-number.invariant.are _ _ c.split_at.ensures.front c.split_at.ensures.back

pub put_code-requires-clause-room : goal.put_code-requires-clause-room
put_code-requires-clause-room c =
    room-first (byte " " ∷ leading_byte c.in-Some.number.now ∷ c.split_at.result.0.now) (codes_led c.split_at.result.1.now)
    c.loop-number.w.at (length c.loop-number.w.out.now)
    (rw (codes-led c.loop-number.left.now _ _ c.in-Some.ensures.cases.0 c.loop-number.invariant.are _ _ c.split_at.ensures.front c.split_at.ensures.back) at c.loop-number.invariant.room)

pub loop-number-preserved : goal.loop-number-preserved
loop-number-preserved c = let e = codes-led c.loop-number.left.now _ _ c.in-Some.ensures.cases.0 c.loop-number.invariant.are _ _ c.split_at.ensures.front c.split_at.ensures.back in record {
  are = codes-rest c.loop-number.left.now _ _ c.in-Some.ensures.cases.0 c.loop-number.invariant.are _ _ c.split_at.ensures.front c.split_at.ensures.back;
  room = room-rest _ c.put_code.ensures (rw e at c.loop-number.invariant.room);
  leaves = λ after o. c.loop-number.invariant.leaves after (rw e (writes-both c.put_code.ensures o));
}

pub returns : goal.returns
returns c = let e = codes-end c.loop-number.left.now c.in_default.ensures.cases in
    c.loop-number.invariant.leaves _ (rw e (writes_none _ (omega (arith, c.loop-number.invariant.room))))
