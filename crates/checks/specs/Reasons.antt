-- Inner: no entry's promise is made of this.
-- The reasons by their numbers: 1 to 13, each its own.
use Rattle.std.specs.Prelude.{ℕ, ◌≡◌, Bool, true, false, Result, MatchResult, Ok}
use Rattle.text.specs.Ranges.{◌to◌, is_within}
use Rattle.checks.specs.declared.reasons.Reason.{Reason}
use Rattle.checks.specs.declared.reasons.Reason.TheVariants.{OutOfPlace, MayNotEnd, Missing, TooManyRepetitions, TooLong, BadEscape, NotOfItsType, NotInItsList, UnsupportedMessageType, UnsupportedEvent, UnsupportedProcessingId, UnsupportedVersion, NoSuchDay}
use Rattle.checks.specs.declared.reasons.NoReason.{NoReason}

abbrev pub number_of_reason : Reason → ℕ
number_of_reason OutOfPlace = 1
number_of_reason MayNotEnd = 2
number_of_reason Missing = 3
number_of_reason TooManyRepetitions = 4
number_of_reason TooLong = 5
number_of_reason BadEscape = 6
number_of_reason NotOfItsType = 7
number_of_reason NotInItsList = 8
number_of_reason UnsupportedMessageType = 9
number_of_reason UnsupportedEvent = 10
number_of_reason UnsupportedProcessingId = 11
number_of_reason UnsupportedVersion = 12
number_of_reason NoSuchDay = 13

abbrev pub is_reason_number : ℕ → Bool
is_reason_number n = is_within (1 to 13) n

-- THE REASON OF A NUMBER: the one that has it; of a number outside 1 to 13 there is none, and the error has the number
abbrev pub Names : ℕ → Result Reason NoReason → Type 0
Names n r = MatchResult r (λ reason. number_of_reason reason ≡ n) (λ e. (e.0 ≡ n) × (is_reason_number n ≡ false))

-- THE LAWS: each reason's number is 1 to 13, and what the number of a reason names is that reason
abbrev pub NumbersFit : Type 0
NumbersFit = (reason : Reason) → is_reason_number (number_of_reason reason) ≡ true

abbrev pub NamesBack : Type 0
NamesBack = (reason : Reason) (r : Result Reason NoReason) → Names (number_of_reason reason) r → r ≡ Ok reason
