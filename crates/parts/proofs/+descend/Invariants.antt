-- `descend` calls itself, the depth falling.
use Rattle.parts.proofs.+descend.Given as goal

abbrev pub decreases-descend : goal.decreases-descend
decreases-descend l = l.depth
