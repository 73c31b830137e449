-- `check_segments`: the three tests, told from the segments that are left.
use borrow.Author.Rules.{rules}
use Prim.Native.Nat.{◌+◌, ◌≤◌}
use native.Mathlib.Omega.{arith}
use mathlib.Core.Path.{ap}
use lib.ListN.{length}
use Rattle.text.specs.Bytes.{cr}
use Rattle.parts.proofs.Reach.{ended-few}
use Rattle.frame.proofs.Walk.{walked_bad, walked_on, walked_second, walked_many, walked_good}
use Rattle.frame.proofs.checks.check_segments.Goals as goal

pub returns-then-not-is_segment : goal.returns-then-not-is_segment
returns-then-not-is_segment c = walked_bad c.args.m.now c.loop-s.second c.loop-s.count _ c.loop-s.invariant.1 _ _ c.in-Some.ensures.steps
    _ _ c.loop-s.invariant.0 c.is_segment.ensures c.if-not-is_segment.true

pub overflow_add-count : goal.overflow_add-count
overflow_add-count c =
    let few : c.loop-s.count + 1 ≤ length c.args.m.now =
    omega (arith, c.loop-s.invariant.1.counted, ap length c.in-Some.ensures.steps, ended-few cr c.args.m.now) in
    search rules

pub loop-s-preserved : goal.loop-s-preserved
loop-s-preserved c = (
  c.loop-s.invariant.0,
  walked_on c.args.m.now c.loop-s.second c.loop-s.count _ c.loop-s.invariant.1 _ _ c.in-Some.ensures.steps
      _ _ _ c.loop-s.invariant.0 c.is_segment.ensures c.if-not-is_segment.false c.is_header.ensures,
)

pub returns-then-second : goal.returns-then-second
returns-then-second c = walked_second c.args.m.now c.loop-s.second c.loop-s.count _ c.loop-s.invariant.1 c.in-None.ensures.steps.0 c.if-second.true

pub returns-then-count-gt-MOST_SEGMENTS : goal.returns-then-count-gt-MOST_SEGMENTS
returns-then-count-gt-MOST_SEGMENTS c = walked_many c.args.m.now c.loop-s.second c.loop-s.count _ c.loop-s.invariant.1 c.in-None.ensures.steps.0
    c.if-second.false c.if-count-gt-MOST_SEGMENTS.true

pub returns : goal.returns
returns c = walked_good c.args.m.now c.loop-s.second c.loop-s.count _ c.loop-s.invariant.1 c.in-None.ensures.steps.0 c.if-second.false c.if-count-gt-MOST_SEGMENTS.false
