-- `is_filled`: whether one of the listed fields is that one and filled, told from the row where the loop stands.
use native.Mathlib.Omega.{arith}
use Rattle.frame.specs.Segments.{name}
use Rattle.codes.proofs.Numbered.{named-number}
use Rattle.usage.proofs.SegmentFields.{Ahead, ahead, ahead_falls, ahead-field, seeks_first, seeks_found, seeks_empty, seeks_other, seeks_none}
use Rattle.usage.proofs.is_filled.Goals as goal
use Rattle.usage.proofs.is_filled.Goals.{After-next_field-end, else-table-at-via-then-table-at+else-starts_filled as blank, else-table-at-via-else-table-at as other}

pub rows_under-rows-requires : goal.rows_under-rows-requires
rows_under-rows-requires c = (c.requires.0, (c.requires.1.1, omega (arith, (named-number (name c.args.s.now) c.args.k c.requires.1.0 c.requires.1.1).0)))

pub loop-at-init : goal.loop-at-init
loop-at-init c = seeks_first c.args.q c.args.s.now c.args.number c.requires.1 c.rows_under-rows.ensures

-- the field where the loop stands
here : (c : After-next_field-end) → Ahead c.args.table.now c.args.k c.loop-at.at c.rows_under-rows.result.end c.next_field-end.result
here c = ahead c.loop-at.invariant.left c.loop-at-test.true c.next_field-end.ensures

pub starts_filled-requires : goal.starts_filled-requires
starts_filled-requires c = record { sound = c.requires; field = ahead-field (here (goal.at.starts_filled-requires c).After-next_field-end) }

pub returns-then-starts_filled : goal.returns-then-starts_filled
returns-then-starts_filled c = seeks_found c.loop-at.invariant (here (goal.at.returns-then-starts_filled c).After-next_field-end) c.if-table-at.true c.starts_filled.ensures c.if-starts_filled.true

pub loop-at-smaller : goal.loop-at-smaller
loop-at-smaller c = ahead_falls (here (goal.at.loop-at-smaller c).After-next_field-end)

pub loop-at-preserved : goal.loop-at-preserved
loop-at-preserved c =
    let on = here (goal.at.loop-at-preserved c).After-next_field-end in
    elim c.else-table-at.branch [
      | blank w ↦ seeks_empty c.loop-at.invariant on w.starts_filled.ensures w.if-starts_filled.false
      | other w ↦ seeks_other c.loop-at.invariant on w.if-table-at.false
    ]

pub returns : goal.returns
returns c = seeks_none c.loop-at.invariant c.loop-at-test.false
