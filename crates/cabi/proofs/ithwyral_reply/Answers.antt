-- `ithwyral_reply`: what is told is what was written.
use Rattle.cabi.proofs.ithwyral_reply.Goals as goal

pub returns : goal.returns
returns c = record { told = rw c.reply.ensures.answer at c.tell.ensures; buffer = c.reply.ensures.buffer }
