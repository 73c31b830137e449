-- P1 TO P12 HOLD of the definitions.
use mathlib.Core.Path.{refl}
use Rattle.worked.specs.Worked.{examples, AllHold}
use Rattle.worked.proofs.Computing.{computing}
use Rattle.worked.proofs.Examples.{failing, all_hold}

pub worked : AllHold examples
unfolding computing failing examples
worked = all_hold examples refl
