-- `put_code`: after the blank and the first byte, as many bytes as are passed stand there.
use mathlib.Core.Path.{◌≡◌}
use native.Mathlib.Omega.{arith}
use lib.ListN.{take}
use lib.Seq.{take_all}
use borrow.Author.Rules.{rules}
use Rattle.text.proofs.Writes.{writes-both, writes-length}
use Rattle.chart.proofs.CodeByCode.{is_byte, byte-on}
use Rattle.chart.proofs.row.put_code.Goals as goal

pub overflow_cast-others : goal.overflow_cast-others
overflow_cast-others c = omega (arith, is_byte c.args.others.now c.loop-i.i (search rules) c.requires.bytes)

pub loop-i-preserved : goal.loop-i-preserved
loop-i-preserved c = record {
  room = omega (arith, writes-length c.put-in-loop-i.ensures);
  writes = byte-on c.args.others.now c.loop-i.i (search rules) c.loop-i.invariant.writes c.put-in-loop-i.ensures;
}

pub returns : goal.returns
returns c = let z : take c.loop-i.i c.args.others.now ≡ c.args.others.now = take_all _ _ (omega arith) in
    writes-both c.put.ensures (rw z at c.loop-i.invariant.writes)
