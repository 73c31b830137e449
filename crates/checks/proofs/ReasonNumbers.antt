-- The numbers of the reasons: each is 1 to 13, and names its reason.
use Rattle.std.proofs.Common.{◌≡◌, refl, sym, ap, ◌∙◌, ℕ, List, [], ◌∷◌, get_or, true, Ok, Err}
use Rattle.checks.specs.declared.reasons.Reason.{Reason}
use Rattle.checks.specs.declared.reasons.Reason.TheVariants.{OutOfPlace, MayNotEnd, Missing, TooManyRepetitions, TooLong, BadEscape, NotOfItsType, NotInItsList, UnsupportedMessageType, UnsupportedEvent, UnsupportedProcessingId, UnsupportedVersion, NoSuchDay}
use Rattle.checks.specs.Reasons.{number_of_reason, is_reason_number, NumbersFit, NamesBack}

pub numbers_fit : NumbersFit
numbers_fit reason =
    elim reason as (λ k. is_reason_number (number_of_reason k) ≡ true) [
      | OutOfPlace ↦ refl
      | MayNotEnd ↦ refl
      | Missing ↦ refl
      | TooManyRepetitions ↦ refl
      | TooLong ↦ refl
      | BadEscape ↦ refl
      | NotOfItsType ↦ refl
      | NotInItsList ↦ refl
      | UnsupportedMessageType ↦ refl
      | UnsupportedEvent ↦ refl
      | UnsupportedProcessingId ↦ refl
      | UnsupportedVersion ↦ refl
      | NoSuchDay ↦ refl
    ]

-- the reasons in the order of their numbers, from 1
reasons : List Reason
reasons =
    OutOfPlace ∷ MayNotEnd ∷ Missing ∷ TooManyRepetitions ∷ TooLong ∷ BadEscape ∷ NotOfItsType ∷ NotInItsList ∷ UnsupportedMessageType ∷ UnsupportedEvent
    ∷ UnsupportedProcessingId ∷ UnsupportedVersion ∷ NoSuchDay ∷ []

reason_at : ℕ → Reason
reason_at n = get_or (OutOfPlace ∷ reasons) n OutOfPlace

stands_at_its_number : (reason : Reason) → reason_at (number_of_reason reason) ≡ reason
unfolding reason_at reasons
stands_at_its_number reason =
    elim reason as (λ k. reason_at (number_of_reason k) ≡ k) [
      | OutOfPlace ↦ refl
      | MayNotEnd ↦ refl
      | Missing ↦ refl
      | TooManyRepetitions ↦ refl
      | TooLong ↦ refl
      | BadEscape ↦ refl
      | NotOfItsType ↦ refl
      | NotInItsList ↦ refl
      | UnsupportedMessageType ↦ refl
      | UnsupportedEvent ↦ refl
      | UnsupportedProcessingId ↦ refl
      | UnsupportedVersion ↦ refl
      | NoSuchDay ↦ refl
    ]

-- two reasons with one number are one
pub one_reason : (a b : Reason) → number_of_reason a ≡ number_of_reason b → a ≡ b
one_reason a b e = sym (stands_at_its_number a) ∙ ap reason_at e ∙ stands_at_its_number b

pub names_back : NamesBack
names_back reason (Err e) h = let fits : is_reason_number (number_of_reason reason) ≡ true = numbers_fit reason in cc (h.1)
names_back reason (Ok other) h = ap (λ r. Ok r) (one_reason other reason h)
