-- `piece`: the piece sought is told from where the loop stands.
use borrow.Author.Rules.{rules}
use native.Mathlib.Omega.{arith}
use Prim.Native.Nat.{◌+◌, ◌-◌}
use Rattle.parts.proofs.Sought.{sought-on, sought-here, sought-none}
use Rattle.parts.proofs.piece.Goals as goal

pub returns-then-t-to : goal.returns-then-t-to
returns-then-t-to c = sought-none c.args.sep c.args.t.now _ c.loop.from c.loop.to c.loop.invariant.0 c.loop.invariant.1.0
    (c.args.n - c.loop.counter) (omega arith) c.if-t-to.true c.loop.invariant.1.1

pub loop-preserved : goal.loop-preserved
loop-preserved c = (
  search rules,
  (
    c.near_end-to-in-loop.ensures,
    sought-on c.args.sep c.args.t.now _ c.loop.from c.loop.to c.loop.invariant.0 c.loop.invariant.1.0
        (c.args.n - c.loop.counter) (c.args.n - (c.loop.counter + 1)) (omega arith) c.if-t-to.false c.loop.invariant.1.1,
  ),
)

pub returns : goal.returns
returns c = sought-here c.args.sep c.args.t.now _ c.loop.from c.loop.to c.loop.invariant.0 c.loop.invariant.1.0
    (c.args.n - c.loop.counter) (omega arith) c.loop.invariant.1.1
