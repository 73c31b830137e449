-- An entry's promise is made of this.
-- What each case of an answer tells: 01's number and values.
use Rattle.std.specs.Prelude.{[], ◌∷◌, Option, None, Some, Result}
use Rattle.text.specs.Answer.{Answer, answer_of}
use Rattle.text.specs.declared.refusal.Refusal.{Refusal}
use Rattle.seek.specs.declared.Found as code-found
use Rattle.seek.specs.Told.{found_told}
use Rattle.reader.specs.declared.Place as code-place
use Rattle.reader.specs.declared.Fault as code-fault
use Rattle.checks.specs.Place.{Place, place}
use Rattle.checks.specs.LookUp.{Found}
use Rattle.checks.specs.Fault.{Verdict, accepted, fault}

-- the code holds a name as its three bytes
abbrev pub place_of : code-place.Place → Place
place_of p =
    place (p.first ∷ p.second ∷ p.third ∷ [])
    p.occurrence p.field p.repetition p.component p.subcomponent

-- Empty, or a text from its start to its end (`found_told`, seek/specs/Told.antt)
abbrev pub found_of : Result code-found.Found Refusal → Answer Found
found_of r = answer_of found_told r

-- no fault: accepted
abbrev pub verdict_told : Option code-fault.Fault → Verdict
verdict_told None = accepted
verdict_told (Some f) = fault (place_of f.place) f.reason

abbrev pub verdict_of : Result (Option code-fault.Fault) Refusal → Answer Verdict
verdict_of r = answer_of verdict_told r
