-- `put_resolved`: each step writes one byte.
use native.Mathlib.Omega.{arith}
use mathlib.Core.Path.{refl}
use borrow.Author.Rules.{rules}
use Rattle.text.proofs.Puts.{puts_one}
use Rattle.escape.proofs.Escapes.{byte_there, escape_there, nothing_there, filled-room, filled_more, filled-all}
use Rattle.escape.proofs.put_resolved.Goals as goal

pub bounds-t-i-then-b-q : goal.bounds-t-i-then-b-q
bounds-t-i-then-b-q c = omega (arith, (escape_there c.args.q c.args.t.now c.loop-i.i (search rules) c.if-b-q.true c.loop-i.invariant.good).0)

pub bounds-w-to : goal.bounds-w-to
bounds-w-to c =
    omega (arith, filled-room _ _ _ _ _ c.loop-i.invariant _ _ (escape_there c.args.q c.args.t.now c.loop-i.i (search rules) c.if-b-q.true c.loop-i.invariant.good).1.1)

pub loop-i-preserved-then-b-q : goal.loop-i-preserved-then-b-q
loop-i-preserved-then-b-q c =
    let there = escape_there c.args.q c.args.t.now c.loop-i.i (search rules) c.if-b-q.true c.loop-i.invariant.good in
    let room = filled-room _ _ _ _ _ c.loop-i.invariant _ _ there.1.1 in
    rw (c.unwrap_or.ensures, c.meant.ensures, there.1.0)
    (filled_more _ _ _ _ _ c.loop-i.invariant _ _ _ there.1.1
    (record { same = refl; puts = puts_one c.loop-i.w.out.now c.loop-i.to _ (omega (arith, room)) }))

pub bounds-w-to-else-b-q : goal.bounds-w-to-else-b-q
bounds-w-to-else-b-q c =
    omega (arith, filled-room _ _ _ _ _ c.loop-i.invariant _ _ (byte_there c.args.q c.args.t.now c.loop-i.i (search rules) c.if-b-q.false))

pub loop-i-preserved : goal.loop-i-preserved
loop-i-preserved c =
    let room = filled-room _ _ _ _ _ c.loop-i.invariant _ _ (byte_there c.args.q c.args.t.now c.loop-i.i (search rules) c.if-b-q.false) in
    filled_more _ _ _ _ _ c.loop-i.invariant _ _ _ (byte_there c.args.q c.args.t.now c.loop-i.i (search rules) c.if-b-q.false)
    (record { same = refl; puts = puts_one c.loop-i.w.out.now c.loop-i.to _ (omega (arith, room)) })

pub returns : goal.returns
returns c =
    filled-all c.args.q c.args.t.now c.args.w.now _ _ c.loop-i.invariant (nothing_there c.args.q c.args.t.now c.loop-i.i c.loop-i-test.false)
