-- `tell`: the reply, or the line of its refusal.
use Rattle.std.specs.Prelude.{length}
use Rattle.profile.specs.Profile.{profile01}
use Rattle.reply.specs.Reply.{reply}
use Rattle.answer.proofs.Told.{shows_refused, shows_given}
use Rattle.answer.proofs.tell.Goals as goal

pub returns-in-Err : goal.returns-in-Err
returns-in-Err c =
    shows_refused (reply profile01 c.args.m.now c.args.stamp.now c.args.number.now (length c.args.out.now)) _ _ _ _ c.in-Err.ensures.answer
    c.refused_line.ensures

pub returns-in-Ok : goal.returns-in-Ok
returns-in-Ok c =
    shows_given (reply profile01 c.args.m.now c.args.stamp.now c.args.number.now (length c.args.out.now)) _ c.args.out.now _ c.in-Ok.ensures.answer
    c.in-Ok.ensures.buffer
