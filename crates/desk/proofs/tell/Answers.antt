-- `tell`: what is judged is what the line tells.
use Rattle.desk.proofs.tell.Goals as goal

pub returns : goal.returns
returns c = rw c.judge.ensures at c.desk_line.ensures
