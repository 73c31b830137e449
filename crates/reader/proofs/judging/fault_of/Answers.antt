-- `fault_of`: the name is the three bytes there.
use Rattle.walk.proofs.Walking.{three-bytes}
use Rattle.reader.proofs.judging.fault_of.Goals as goal

pub returns : goal.returns
returns c = rw (c.occurrence_at.ensures, c.from.ensures, three-bytes c.args.m.now c.args.start c.requires.0)
