-- `first_repetition`: of the first field.
use Rattle.cutting.proofs.first_repetition.Goals as goal

pub returns : goal.returns
returns c = rw (← c.first_piece.ensures) c.first_piece-2.ensures
