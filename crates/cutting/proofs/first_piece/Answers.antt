-- `first_piece`: it ends at the first separator.
use mathlib.Core.Path.{sym}
use lib.Seq.{length-take-le}
use Rattle.cutting.proofs.Cutting.{first-inside, first-bytes}
use Rattle.cutting.proofs.first_piece.Goals as goal

pub slice_bounds-result-end : goal.slice_bounds-result-end
slice_bounds-result-end c = sym (length-take-le _ _ (first-inside _ _ _ c.near_end.ensures))

pub returns : goal.returns
returns c = first-bytes _ _ _ c.near_end.ensures
