-- `file`: what the entry promises.
use Rattle.called.proofs.file.Goals as goal

pub returns : goal.returns
returns c = c.file.ensures
