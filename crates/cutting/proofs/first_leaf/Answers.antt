-- `first_leaf`: of the first component the first subcomponent.
use Rattle.parts.specs.Span.{part_text}
use Rattle.cutting.proofs.first_leaf.Goals as goal

pub returns : goal.returns
unfolding part_text
returns c = rw (← c.first_piece.ensures) c.first_piece-2.ensures
