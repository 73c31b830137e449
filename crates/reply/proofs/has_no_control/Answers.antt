-- `has_no_control`: the control number's text is tested.
use Rattle.reply.proofs.Control.{control-tested}
use Rattle.reply.proofs.has_no_control.Goals as goal

pub returns : goal.returns
returns c = rw c.is_empty.ensures (control-tested c.args.h.message.now c.args.h.tenth.now c.requires c.marks_of-q.ensures _ c.field_leaf-control.ensures _ c.is_unfit.ensures)
