-- `last_end`: the end is told from where the loop stands.
use native.Mathlib.Omega.{arith}
use Rattle.parts.proofs.Reach.{reach_here, reach-on, reach-end}
use Rattle.parts.proofs.last_end.Goals as goal

pub returns-then-t-i : goal.returns-then-t-i
returns-then-t-i c = omega (arith, c.loop-i.invariant, reach_here c.args.sep c.args.t.now c.loop-i.i (omega arith) c.if-t-i.true)

pub loop-i-preserved : goal.loop-i-preserved
loop-i-preserved c = omega (arith, c.loop-i.invariant, reach-on c.args.sep c.args.t.now c.loop-i.i (omega arith) c.if-t-i.false)

pub returns : goal.returns
returns c = omega (arith, c.loop-i.invariant, reach-end c.args.sep c.args.t.now c.loop-i.i (omega arith))
