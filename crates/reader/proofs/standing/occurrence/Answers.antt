-- `occurrence`: where it stands is told from the segments that are left.
use Prim.Native.Nat.{◌+◌, ◌≤◌}
use native.Mathlib.Omega.{arith}
use mathlib.Core.Path.{ap}
use lib.ListN.{length}
use Rattle.parts.specs.Split.{ended}
use Rattle.reader.proofs.Seek.{taken, taken-most, sought-first, sought-this, sought-another, sought-other, sought-none}
use Rattle.reader.proofs.standing.occurrence.Goals as goal
use Rattle.reader.proofs.standing.occurrence.Goals.{else-has_name, then-has_name+else-left-le1}

pub loop-s-init : goal.loop-s-init
loop-s-init c = rw c.into_iter-s-iterator.ensures.into_iter_gives (c.requires, (omega (arith, taken-most c.args.m.now), sought-first _ _ _ c.requires))

pub returns-then-left-le1 : goal.returns-then-left-le1
returns-then-left-le1 c = sought-this _ _ c.loop-s.start c.loop-s.left _ c.loop-s.invariant.1.1 _ _ c.in-Some.ensures.steps c.loop-s.invariant.0
    c.has_name.result c.has_name.ensures c.if-has_name.true c.if-left-le1.true

pub loop-s-preserved : goal.loop-s-preserved
loop-s-preserved c =
    let few : c.loop-s.start + length c.in-Some.s.now + 1 + taken (ended c.next.new.self.sep c.next.new.self.rest.now) ≤ length c.args.m.now =
    omega (arith, c.loop-s.invariant.1.0, ap taken c.in-Some.ensures.steps) in
    elim c.if-has_name.branch [
      | then-has_name+else-left-le1 w ↦ rw w.left-is (
        omega (arith, w.if-left-le1.false),
        (
          few,
          sought-another _ _ c.loop-s.start c.loop-s.left _ c.loop-s.invariant.1.1 _ _ c.in-Some.ensures.steps c.loop-s.invariant.0
              c.has_name.result c.has_name.ensures w.if-has_name.true w.if-left-le1.false,
        ),
      )
      | else-has_name w ↦ rw w.left-is (
        c.loop-s.invariant.0,
        (
          few,
          sought-other _ _ c.loop-s.start c.loop-s.left _ c.loop-s.invariant.1.1 _ _ c.in-Some.ensures.steps c.loop-s.invariant.0
              c.has_name.result c.has_name.ensures w.if-has_name.false,
        ),
      )
    ]

pub returns : goal.returns
returns c = sought-none _ _ c.loop-s.start c.loop-s.left _ c.loop-s.invariant.1.1 c.in-None.ensures.steps.0
