-- `advance`: the cursor stands at a piece all along.
use native.Mathlib.Omega.{arith}
use mathlib.Core.Path.{◌≡◌, refl, subst}
use Prim.Native.Nat.{ℕ}
use Rattle.cursor.specs.Cursor.{IsPiece}
use Rattle.cursor.proofs.Moving.{cursor, cursor-on, cursor_past}
use Rattle.cursor.proofs.advance.Goals as goal

pub returns-then-t-end : goal.returns-then-t-end
returns-then-t-end c = (cursor_past c.args.sep c.args.t.now c.loop.counter c.loop.start c.loop.end c.args.n c.loop.invariant c.loop-test.true c.if-t-end.true, refl)

pub loop-preserved : goal.loop-preserved
loop-preserved c =
    cursor-on c.args.sep c.args.t.now c.loop.counter c.loop.start c.loop.end c.end_from-end.result c.loop.invariant c.if-t-end.false c.end_from-end.ensures

pub returns : goal.returns
returns c =
    let e : c.loop.counter ≡ c.args.n = omega arith in
    (subst (λ (k : ℕ). IsPiece c.args.sep c.args.t.now (cursor k c.loop.start c.loop.end)) e c.loop.invariant, refl)
