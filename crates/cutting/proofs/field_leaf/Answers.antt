-- `field_leaf`: of the first field's first repetition.
use Rattle.cutting.proofs.field_leaf.Goals as goal

pub returns : goal.returns
returns c = rw (← c.first_repetition.ensures) c.first_leaf.ensures
