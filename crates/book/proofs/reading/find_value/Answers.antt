-- `find_value`: NO SLOT, or what the slot's bytes answer.
use mathlib.Core.Path.{sym, ◌∙◌}
use Rattle.book.proofs.ReadSlip.{read_no_slot, read-slot}
use Rattle.book.specs.Told.{value_of}
use Rattle.book.proofs.reading.find_value.Goals as goal

pub returns-then-no_slot : goal.returns-then-no_slot
returns-then-no_slot c = read_no_slot c.args.book.now c.args.slot c.args.tag (sym c.no_slot.ensures ∙ c.if-no_slot.true)

pub returns : goal.returns
returns c = read-slot c.args.book.now c.args.slot c.args.tag (sym c.no_slot.ensures ∙ c.if-no_slot.false)
    c.slot_start-base.result c.slot_start-base.ensures.0 (value_of c.read_in.result) c.read_in.ensures
