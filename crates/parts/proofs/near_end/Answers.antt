-- `near_end`: the end is told from where the loop stands, four bytes at a time.
use Prim.Native.Nat.{◌+◌}
use mathlib.Core.Path.{refl}
use native.Mathlib.Omega.{arith}
use Rattle.parts.proofs.Reach.{reach_here, reach-next}
use Rattle.parts.proofs.near_end.Goals as goal

pub returns-then-t-i : goal.returns-then-t-i
returns-then-t-i c = omega (arith, c.loop-i.invariant.1, reach_here c.args.sep c.args.t.now c.loop-i.i (omega arith) c.if-t-i.true)

pub returns-then-t-i-2 : goal.returns-then-t-i-2
returns-then-t-i-2 c = omega (
  arith,
  c.loop-i.invariant.1,
  reach-next c.args.sep c.args.t.now c.loop-i.i (c.loop-i.i + 1) refl (omega arith) c.if-t-i.false,
  reach_here c.args.sep c.args.t.now (c.loop-i.i + 1) (omega arith) c.if-t-i-2.true,
)

pub returns-then-t-i-3 : goal.returns-then-t-i-3
returns-then-t-i-3 c = omega (
  arith,
  c.loop-i.invariant.1,
  reach-next c.args.sep c.args.t.now c.loop-i.i (c.loop-i.i + 1) refl (omega arith) c.if-t-i.false,
  reach-next c.args.sep c.args.t.now (c.loop-i.i + 1) (c.loop-i.i + 2) (omega arith) (omega arith) c.if-t-i-2.false,
  reach_here c.args.sep c.args.t.now (c.loop-i.i + 2) (omega arith) c.if-t-i-3.true,
)

pub returns-then-t-i-4 : goal.returns-then-t-i-4
returns-then-t-i-4 c = omega (
  arith,
  c.loop-i.invariant.1,
  reach-next c.args.sep c.args.t.now c.loop-i.i (c.loop-i.i + 1) refl (omega arith) c.if-t-i.false,
  reach-next c.args.sep c.args.t.now (c.loop-i.i + 1) (c.loop-i.i + 2) (omega arith) (omega arith) c.if-t-i-2.false,
  reach-next c.args.sep c.args.t.now (c.loop-i.i + 2) (c.loop-i.i + 3) (omega arith) (omega arith) c.if-t-i-3.false,
  reach_here c.args.sep c.args.t.now (c.loop-i.i + 3) (omega arith) c.if-t-i-4.true,
)

pub loop-i-preserved : goal.loop-i-preserved
loop-i-preserved c = (
  omega arith,
  omega (
    arith,
    c.loop-i.invariant.1,
    reach-next c.args.sep c.args.t.now c.loop-i.i (c.loop-i.i + 1) refl (omega arith) c.if-t-i.false,
    reach-next c.args.sep c.args.t.now (c.loop-i.i + 1) (c.loop-i.i + 2) (omega arith) (omega arith) c.if-t-i-2.false,
    reach-next c.args.sep c.args.t.now (c.loop-i.i + 2) (c.loop-i.i + 3) (omega arith) (omega arith) c.if-t-i-3.false,
    reach-next c.args.sep c.args.t.now (c.loop-i.i + 3) (c.loop-i.i + 4) (omega arith) (omega arith) c.if-t-i-4.false,
  ),
)
