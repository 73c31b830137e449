-- `reply`: what the entry promises.
use Rattle.called.proofs.reply.Goals as goal

pub returns : goal.returns
returns c = c.reply.ensures
