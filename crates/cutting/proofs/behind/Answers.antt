-- `behind`: the pieces that are left are told from where the loop stands.
use borrow.Author.Rules.{rules}
use native.Mathlib.Omega.{arith}
use Prim.Native.Nat.{◌+◌, ◌-◌}
use native.Mathlib.Nat.{sub-zero}
use Rattle.cutting.proofs.Cutting.{left-on, left-none, left-done, rest_all}
use Rattle.cutting.proofs.behind.Goals as goal

pub loop-init : goal.loop-init
loop-init c = (search rules, λ i. rw (sub-zero c.args.n))

pub returns-then-t-to : goal.returns-then-t-to
returns-then-t-to c =
    left-none _ _ _ c.loop.from _ c.loop.invariant.0 c.near_end-to.ensures (c.args.n - c.loop.counter) (omega arith) c.if-t-to.true c.loop.invariant.1

pub loop-preserved : goal.loop-preserved
loop-preserved c = (
  search rules,
  left-on _ _ _ c.loop.from _ c.loop.invariant.0 c.near_end-to.ensures (c.args.n - c.loop.counter) (c.args.n - (c.loop.counter + 1)) (omega arith) c.if-t-to.false c.loop.invariant.1,
)

pub returns : goal.returns
returns c =
    rw (rest_all c.args.t.now c.loop.from c.loop.invariant.0)
    (left-done c.args.sep c.args.t.now c.args.n (c.args.n - c.loop.counter) c.loop.from (omega arith) c.loop.invariant.1)
