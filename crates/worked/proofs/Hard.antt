-- The hard cases hold of the definitions.
use mathlib.Core.Path.{refl}
use Rattle.worked.specs.Worked.{AllHold}
use Rattle.worked.specs.Hard.{frames, looks, escapes, types, faults, observations, days, replies, slips, books}
use Rattle.worked.proofs.Computing.{computing}
use Rattle.worked.proofs.Examples.{failing, all_hold}

pub frames-hold : AllHold frames
unfolding computing failing frames
frames-hold = all_hold frames refl

pub looks-hold : AllHold looks
unfolding computing failing looks
looks-hold = all_hold looks refl

pub escapes-hold : AllHold escapes
unfolding computing failing escapes
escapes-hold = all_hold escapes refl

pub types-hold : AllHold types
unfolding computing failing types
types-hold = all_hold types refl

pub faults-hold : AllHold faults
unfolding computing failing faults
faults-hold = all_hold faults refl

pub observations-hold : AllHold observations
unfolding computing failing observations
observations-hold = all_hold observations refl

pub days-hold : AllHold days
unfolding computing failing days
days-hold = all_hold days refl

pub replies-hold : AllHold replies
unfolding computing failing replies
replies-hold = all_hold replies refl

pub slips-hold : AllHold slips
unfolding computing failing slips
slips-hold = all_hold slips refl

pub books-hold : AllHold books
unfolding computing failing books
books-hold = all_hold books refl
