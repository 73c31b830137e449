-- `file_accepted`: NoGroup, NoSlot, or the slip in its slot.
use mathlib.Core.Path.{sym, ◌∙◌}
use native.Mathlib.Omega.{arith}
use Rattle.std.proofs.lemmas.Result.{err_from_is_err_and}
use Rattle.slip.proofs.Answers.{own-zero, own-missing, own-slot, own-slip}
use Rattle.slip.specs.Inner.{IsOrder}
use borrow.Author.Rules.{rules}
use Rattle.slip.proofs.filing.file_accepted.Goals as goal
use Rattle.slip.proofs.filing.file_accepted.Goals.{In_ok-order}

-- the OBR of the group stands there
stands : (c : In_ok-order) → IsOrder c.args.m.now c.args.group c.in_ok-order.order
stands c = (omega (arith, c.if-group-eq0.false), sym c.in_ok-order.ensures.ok_part ∙ c.occurrence.ensures)

pub returns-then-group-eq0 : goal.returns-then-group-eq0
returns-then-group-eq0 c = own-zero c.args.m.now c.args.group c.args.slot c.args.book.now c.if-group-eq0.true

pub returns-in_err-order : goal.returns-in_err-order
returns-in_err-order c = let r = err_from_is_err_and c.from_residual.result c.from_residual.ensures.1 in
    rw (r.1, r.2)
    (own-missing c.args.m.now c.args.group c.args.slot c.args.book.now c.occurrence.result c.in_err-order.field-0.0 c.occurrence.ensures c.in_err-order.ensures.value)

pub returns-then-no_slot : goal.returns-then-no_slot
returns-then-no_slot c =
    own-slot c.args.m.now c.args.group c.args.slot c.args.book.now _ (stands (goal.at.returns-then-no_slot c).In_ok-order)
    (sym c.no_slot.ensures ∙ c.if-no_slot.true)

pub returns : goal.returns
returns c =
    let o = stands (goal.at.returns c).In_ok-order in
    own-slip c.args.m.now c.args.group c.args.slot c.args.book.now _ o
    (sym c.no_slot.ensures ∙ c.if-no_slot.false) c.fill_group.new.slip _ _ _ (search rules) (c.fill_group.ensures _ o)
    c.slot_start-at.ensures.0 c.put.ensures
