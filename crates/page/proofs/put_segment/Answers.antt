-- `put_segment`: field by field.
use mathlib.Core.Path.{◌≡◌, ◌∙◌}
use Prim.Native.Nat.{◌≤◌}
use native.Mathlib.Omega.{arith}
use Rattle.profile.specs.Numbers.{segment_number}
use Rattle.codes.proofs.Numbered.{named-number}
use Rattle.usage.proofs.SegmentFields.{Ahead, ahead, ahead-field, ahead_falls}
use Rattle.page.proofs.SegmentRules.{name-number, puts-unlisted, puts-fields-first, field_room, puts-field, puts-fields}
use Rattle.page.proofs.put_segment.Goals.{After-segment_number-k, After-next_field-next, Else-k-eq0}
use Rattle.page.proofs.put_segment.Goals as goal

-- the number is that of the segment's name
numbered : (c : After-segment_number-k) → segment_number c.args.segment.now ≡ c.segment_number-k.result
numbered c = name-number c.args.segment.now c.segment_number-k.result c.requires.sound.1 c.segment_number-k.ensures

-- a segment's number from 1 on
listed : (c : Else-k-eq0) → 1 ≤ c.segment_number-k.result
listed c = omega (arith, c.if-k-eq0.false)

-- the field where the loop stands
here : (c : After-next_field-next) → Ahead c.args.table.now c.segment_number-k.result c.loop-first.first c.rows_under-rows.result.end c.next_field-next.result
here c = ahead c.loop-first.invariant.left c.loop-first-test.true c.next_field-next.ensures

pub returns-then-k-eq0 : goal.returns-then-k-eq0
returns-then-k-eq0 c =
    puts-unlisted c.args.table.now c.args.segment.now c.args.a.name.now c.args.a.field c.args.a.component c.args.w.now c.requires.sound.0
    (numbered (goal.at.returns-then-k-eq0 c).After-segment_number-k ∙ c.if-k-eq0.true)
    c.requires.room

pub rows_under-rows-requires : goal.rows_under-rows-requires
rows_under-rows-requires c =
    let n = numbered (goal.at.rows_under-rows-requires c).After-segment_number-k in
    let l = listed (goal.at.rows_under-rows-requires c).Else-k-eq0 in
    (c.requires.sound.0, (l, omega (arith, (named-number c.args.segment.now c.segment_number-k.result n l).0)))

pub loop-first-init : goal.loop-first-init
loop-first-init c =
    puts-fields-first (numbered (goal.at.loop-first-init c).After-segment_number-k) (listed (goal.at.loop-first-init c).Else-k-eq0)
    c.rows_under-rows.ensures c.requires.room

pub overflow_sub-end : goal.overflow_sub-end
overflow_sub-end c = c.loop-first.invariant.left.order

pub next_field-next-requires : goal.next_field-next-requires
next_field-next-requires c = omega (arith, c.loop-first-test.true, c.loop-first.invariant.left.order, c.loop-first.invariant.left.inside)

pub put_field-requires : goal.put_field-requires
put_field-requires c =
    let h = here (goal.at.put_field-requires c).After-next_field-next in
    record { has_lists = (c.requires.sound.0.lists, (c.segment_number-k.result, ahead-field h)); room = field_room c.loop-first.invariant h }

pub loop-first-smaller : goal.loop-first-smaller
loop-first-smaller c = ahead_falls (here (goal.at.loop-first-smaller c).After-next_field-next)

pub loop-first-preserved : goal.loop-first-preserved
loop-first-preserved c = puts-field c.loop-first.invariant (here (goal.at.loop-first-preserved c).After-next_field-next) c.put_field.ensures

pub returns : goal.returns
returns c = puts-fields c.loop-first.invariant c.loop-first-test.false
