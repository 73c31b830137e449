-- `ithwyral_resolve`: what is told is what was written.
use Rattle.cabi.proofs.ithwyral_resolve.Goals as goal

pub returns : goal.returns
returns c = record { told = rw c.resolve.ensures.answer at c.tell.ensures; buffer = c.resolve.ensures.buffer }
