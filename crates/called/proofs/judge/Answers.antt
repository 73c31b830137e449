-- `judge`: what the entry promises.
use Rattle.called.proofs.judge.Goals as goal

pub returns : goal.returns
returns c = c.judge.ensures
