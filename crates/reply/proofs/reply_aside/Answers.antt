-- `reply_aside`: NO ROOM, or the reply copied from where it was written aside.
use Rattle.text.specs.Bytes.{Text}
use Rattle.types.specs.Types.{is_stamp, is_reply_number}
use mathlib.Core.Path.{◌≡◌}
use mathlib.Core.Bool.{true, false}
use Rattle.reply.specs.Reply.{no_control}
use Rattle.reply.proofs.Whole.{Fit, acknowledges_room, acknowledges_full, acknowledges_given}
use Rattle.reply.proofs.reply_aside.Goals as goal

fit : {m stamp number : Text} → (is_stamp stamp ≡ true) × ((is_reply_number number ≡ true) × (no_control m ≡ false)) → Fit m stamp number
fit good = record { stamped = good.0; numbered = good.1.0; controlled = good.1.1 }

pub put_reply-n-requires-clause-room : goal.put_reply-n-requires-clause-room
put_reply-n-requires-clause-room c =
    acknowledges_room c.args.h.message.now c.args.stamp.now c.args.number.now c.args.buffer.now (fit c.requires.good)

pub returns-then-buffer-n : goal.returns-then-buffer-n
returns-then-buffer-n c =
    acknowledges_full c.args.h.message.now c.args.stamp.now c.args.number.now c.args.buffer.now (fit c.requires.good) c.put_reply-n.ensures c.if-buffer-n.true

pub returns : goal.returns
returns c =
    acknowledges_given c.args.h.message.now c.args.stamp.now c.args.number.now c.args.buffer.now (fit c.requires.good) c.put_reply-n.ensures c.put.ensures
