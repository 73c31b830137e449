-- `resolve`: what the entry promises.
use Rattle.called.proofs.resolve.Goals as goal

pub returns : goal.returns
returns c = c.resolve.ensures
