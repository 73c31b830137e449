-- The short texts are resolved as they should be, and have the lengths that they should have, by computation.
use mathlib.Core.Path.{refl}
use Rattle.text.specs.Bytes.{some, same}
use Rattle.text.specs.Answer.{first}
use Rattle.escape.specs.Escape.{is_escape, stands_for, stops, bad_escape, resolved, resolve}
use Rattle.escape.specs.Cases.{CasesHold, LengthsHold}

pub cases-hold : CasesHold
unfolding some same first is_escape stands_for stops bad_escape resolved resolve
cases-hold = refl

pub lengths_hold : LengthsHold
unfolding some same is_escape stands_for stops resolved
lengths_hold = refl
