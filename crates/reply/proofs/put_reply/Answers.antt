-- `put_reply`: the header, the code, the control number, and the ERR.
use mathlib.Core.Path.{◌≡◌, ap}
use native.Mathlib.Omega.{arith}
use lib.ListN.{length}
use borrow.Author.Rules.{rules}
use Rattle.profile.specs.Profile.{profile01}
use Rattle.text.specs.Writes.{Writes}
use Rattle.text.proofs.Writes.{writes-both, writes-length}
use Rattle.reply.specs.Reply.{control, reply_text}
use Rattle.reply.proofs.Control.{control-copied}
use Rattle.reply.proofs.Whole.{reply-length, reply-written}
use Rattle.reply.proofs.put_reply.Goals as goal
use Rattle.reply.proofs.put_reply.Goals.{After-field_leaf-control}

-- the control number as it is copied
the_control : (c : After-field_leaf-control) → c.field_leaf-control.result.now ≡ control c.args.h.message.now
the_control c = control-copied c.args.h.message.now c.args.h.tenth.now c.requires.opened.control c.marks_of.ensures _ c.field_leaf-control.ensures

pub put_header-requires-clause-room : goal.put_header-requires-clause-room
put_header-requires-clause-room c = omega (
  arith,
  c.requires.room,
  reply-length c.args.h.message.now c.args.stamp.now c.args.number.now c.args.fault c.requires.verdict_told,
)

pub put_code-requires : goal.put_code-requires
put_code-requires c = omega (
  arith,
  c.requires.room,
  reply-length c.args.h.message.now c.args.stamp.now c.args.number.now c.args.fault c.requires.verdict_told,
  writes-length c.put_header.ensures,
)

pub put-requires : goal.put-requires
put-requires c = omega (
  arith,
  c.requires.room,
  reply-length c.args.h.message.now c.args.stamp.now c.args.number.now c.args.fault c.requires.verdict_told,
  ap length (the_control (goal.at.put-requires c).After-field_leaf-control),
  writes-length c.put_header.ensures,
  writes-length c.put_code.ensures,
)

pub put-requires-2 : goal.put-requires-2
put-requires-2 c = omega (
  arith,
  c.requires.room,
  reply-length c.args.h.message.now c.args.stamp.now c.args.number.now c.args.fault c.requires.verdict_told,
  ap length (the_control (goal.at.put-requires-2 c).After-field_leaf-control),
  writes-length c.put_header.ensures,
  writes-length c.put_code.ensures,
  writes-length c.put.ensures,
)

pub put_error-requires : goal.put_error-requires
put_error-requires c = omega (
  arith,
  c.requires.room,
  reply-length c.args.h.message.now c.args.stamp.now c.args.number.now c.args.fault c.requires.verdict_told,
  ap length (the_control (goal.at.put_error-requires c).After-field_leaf-control),
  writes-length c.put_header.ensures,
  writes-length c.put_code.ensures,
  writes-length c.put.ensures,
  writes-length c.put-2.ensures,
)

pub returns : goal.returns
returns c =
    let h : Writes _ (reply_text profile01 c.args.h.message.now c.args.stamp.now c.args.number.now) c.put_error.new.w =
    rw (the_control (goal.at.returns c).After-field_leaf-control, reply-written c.args.h.message.now c.args.stamp.now c.args.number.now c.args.fault c.requires.verdict_told) at
    (writes-both c.put_header.ensures (writes-both c.put_code.ensures (writes-both c.put.ensures (writes-both c.put-2.ensures c.put_error.ensures)))) in
    search rules
