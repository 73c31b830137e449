-- `put_field`: row by row.
use native.Mathlib.Omega.{arith}
use Rattle.page.proofs.FieldRows.{puts-rows-first, row_leaf, row_room, puts_row, puts-rows}
use Rattle.page.proofs.put_field.Goals as goal

pub overflow_sub-alone : goal.overflow_sub-alone
overflow_sub-alone c = omega (arith, c.requires.has_lists.1.1.some)

pub loop-start-init : goal.loop-start-init
loop-start-init c = puts-rows-first c.requires.has_lists.1.1 c.requires.room

pub overflow_sub-next : goal.overflow_sub-next
overflow_sub-next c = c.loop-start.invariant.left.order

pub put_row-requires : goal.put_row-requires
put_row-requires c = record { row_inside = (omega (arith, c.requires.has_lists.1.1.inside, c.loop-start.invariant.left.order, c.loop-start-test.true), c.requires.has_lists.0); known_reason = row_leaf c.loop-start.invariant.left c.loop-start-test.true; room = row_room c.loop-start.invariant c.loop-start-test.true }

-- a row further
pub overflow_add-start : goal.overflow_add-start
overflow_add-start c = omega (arith, c.requires.has_lists.1.1.inside, c.loop-start.invariant.left.order, c.loop-start-test.true)

pub loop-start-preserved : goal.loop-start-preserved
loop-start-preserved c = puts_row c.loop-start.invariant c.loop-start-test.true c.put_row.ensures

pub returns : goal.returns
returns c = puts-rows c.loop-start.invariant c.loop-start-test.false
