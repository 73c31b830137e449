-- The cases with escapes hold of the definitions.
use mathlib.Core.Path.{refl}
use Rattle.worked.specs.Worked.{AllHold}
use Rattle.worked.specs.Lengths.{judged, copied}
use Rattle.worked.proofs.Computing.{computing}
use Rattle.worked.proofs.Examples.{failing, all_hold}

pub judged-hold : AllHold judged
unfolding computing failing judged
judged-hold = all_hold judged refl

pub copied-hold : AllHold copied
unfolding computing failing copied
copied-hold = all_hold copied refl
