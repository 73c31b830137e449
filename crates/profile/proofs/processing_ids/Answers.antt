-- The codes of MSH-11.1 by themselves are those of its list.
use mathlib.Core.Path.{refl}
use Rattle.profile.specs.Codes.{codes_behind, are_whole}
use Rattle.profile.proofs.processing_ids.Goals as goal

pub returns : goal.returns
unfolding codes_behind are_whole
returns c = (refl, (refl, refl))
