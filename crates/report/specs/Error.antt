-- An entry's promise is made of this.
-- The reply's code for a verdict, and its ERR: the place and the condition of a fault.
use Rattle.std.specs.Prelude.{ℕ, ◌&&◌, List, [], ◌∷◌, map, eqb, ltb}
use Rattle.text.specs.Bytes.{Text, pick, bytes, empty}
use Rattle.text.specs.Decimal.{decimal}
use Rattle.text.specs.Marks.{usual}
use Rattle.parts.specs.Split.{join}
use Rattle.reader.specs.Place.{Place}
use Rattle.reader.specs.Fault.{Verdict, accepted, fault, condition}

-- from this condition on a message is rejected
abbrev pub first_rejection : ℕ
first_rejection = 200

-- AE below that condition, AR from it on, else AA
abbrev pub code : Verdict → Text
code accepted = bytes "AA"
code (fault p n) = pick (ltb (condition n) first_rejection) (bytes "AE") (bytes "AR")

-- a list of numbers with its trailing zeros left off; a zero before another number stays
unfoldable pub without_trailing_zeros : List ℕ → List ℕ
without_trailing_zeros [] = []
without_trailing_zeros (n ∷ ns) = let r = without_trailing_zeros ns in pick (eqb n 0 && empty r) [] (n ∷ r)

abbrev pub place_numbers : Place → List ℕ
place_numbers p = p.occurrence ∷ p.field ∷ p.repetition ∷ p.component ∷ p.subcomponent ∷ []

-- place (trailing zeros left off): its name, then the numbers that are left
abbrev pub place_text : Place → Text
place_text p = join usual.component (p.name ∷ map decimal (without_trailing_zeros (place_numbers p)))

-- table 0357: any other number is no condition and has no text
abbrev pub condition_text : ℕ → Text
condition_text k =
    pick (eqb k 100) (bytes "Segment sequence error")
    (pick (eqb k 101) (bytes "Required field missing")
    (pick (eqb k 102) (bytes "Data type error")
    (pick (eqb k 103) (bytes "Table value not found")
    (pick (eqb k 200) (bytes "Unsupported message type")
    (pick (eqb k 201) (bytes "Unsupported event code")
    (pick (eqb k 202) (bytes "Unsupported processing id")
    (pick (eqb k 203) (bytes "Unsupported version id") [])))))))

-- an ERR for a fault
abbrev pub reply_err : Verdict → List Text
reply_err accepted = []
reply_err (fault p n) =
    join usual.field
    (bytes "ERR"
    ∷ []
    ∷ place_text p
    ∷ join usual.component
    (decimal (condition n) ∷ condition_text (condition n) ∷ bytes "HL70357" ∷ [])
    ∷ bytes "E"
    ∷ [])
    ∷ []
