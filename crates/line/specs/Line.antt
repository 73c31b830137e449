-- The desk's programs promise this.
-- What the desk's programs print, one line an answer.
use Rattle.std.specs.Prelude.{ℕ, ◌≤◌, ◌≡◌, List, [], ◌∷◌, ◌++◌, length, take}
use Rattle.text.specs.Bytes.{Text, bytes, byte}
use Rattle.text.specs.Decimal.{decimal}
use Rattle.text.specs.Answer.{Answer, refused, given, number_of}
use Rattle.text.specs.declared.refusal.Refusal.{Refusal}
use Rattle.parts.specs.Split.{join}
use Rattle.reader.specs.Place.{Place}
use Rattle.reader.specs.LookUp.{Found, Empty, text_from_to}
use Rattle.reader.specs.Fault.{Verdict, accepted, fault, condition}

abbrev pub refused_line : Refusal → Text
refused_line r = bytes "refused " ++ decimal (number_of r)

-- a place's name and its five numbers
abbrev pub place_words : Place → List Text
place_words p =
    p.name
    ∷ decimal p.occurrence
    ∷ decimal p.field
    ∷ decimal p.repetition
    ∷ decimal p.component
    ∷ decimal p.subcomponent
    ∷ []

unfoldable pub fault_line : Place → ℕ → Text
fault_line p n =
    join (byte " ") (bytes "fault" ∷ place_words p ++ decimal (condition n) ∷ decimal n ∷ [])

-- JUDGING: accepted; refused and the number; or fault, the place's name and five numbers, condition, reason
abbrev pub desk_line : Answer Verdict → Text
desk_line (refused r) = refused_line r
desk_line (given accepted) = bytes "accepted"
desk_line (given (fault p n)) = fault_line p n

-- LOOKING UP: empty; refused and the number; or text, its start and its end
unfoldable pub text_line : ℕ → ℕ → Text
text_line a e = join (byte " ") (bytes "text" ∷ decimal a ∷ decimal e ∷ [])

abbrev pub look_line : Answer Found → Text
look_line (refused r) = refused_line r
look_line (given Empty) = bytes "empty"
look_line (given (text_from_to a e)) = text_line a e

-- a line as it is printed, with its line end
abbrev pub newline : ℕ
newline = 0x0A

abbrev pub as_line : Text → Text
as_line t = t ++ newline ∷ []

-- REPLYING: the reply as it is, CR and all; or refused and the number
abbrev pub answer_text : Answer Text → Text
answer_text (refused r) = as_line (refused_line r)
answer_text (given t) = t

-- the first n bytes of a buffer are that text
pub record Shows (n : ℕ) (out t : Text) : Type 0 where
  pub inside : n ≤ length out
  pub text : take n out ≡ t
