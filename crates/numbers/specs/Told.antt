-- An entry's promise is made of this.
-- How an answer is told to a caller of C or Rust: by the number that is returned, and by numbers in a lent list.
use Rattle.std.specs.Prelude.{ℕ, ◌≡◌, List, [], ◌∷◌, ◌++◌, get_or, replicate}
use Rattle.text.specs.Bytes.{Text}
use Rattle.text.specs.Answer.{Answer, refused, given, number_of}
use Rattle.reader.specs.Place.{Place, place}
use Rattle.reader.specs.LookUp.{Found, Empty, text_from_to}
use Rattle.reader.specs.Fault.{Verdict, accepted, fault, condition}
use Rattle.book.specs.Read.{Part}

-- 0 where the call is answered, else the refusal's number
abbrev pub status : {A : Type 0} → Answer A → ℕ
status (refused r) = number_of r
status (given a) = 0

-- the lent list afterwards: the answer's numbers; a refusal writes nothing
abbrev pub list_after : {A : Type 0} → (A → List ℕ) → Answer A → List ℕ → List ℕ
list_after numbers (refused r) before = before
list_after numbers (given a) before = numbers a

-- AN ANSWER TOLD: the number returned, and the list that held `before`
pub record Tells {A : Type 0} (numbers : A → List ℕ) (a : Answer A) (before : List ℕ) (r : ℕ) (after : List ℕ) : Type 0 where
  pub returned : r ≡ status a
  pub list : after ≡ list_after numbers a before

-- a verdict in ten numbers: reason, condition, the name's three bytes, then the place's five numbers; zeros for accepted
abbrev pub verdict_numbers : Verdict → List ℕ
verdict_numbers accepted = replicate 10 0
verdict_numbers (fault p n) =
    n ∷ condition n
    ∷ (p.name ++ (p.occurrence ∷ p.field ∷ p.repetition ∷ p.component ∷ p.subcomponent ∷ []))

-- what a look-up finds in three: 0 for Empty, 1 for Text; its start and end, zeros for Empty
abbrev pub found_numbers : Found → List ℕ
found_numbers Empty = 0 ∷ 0 ∷ 0 ∷ []
found_numbers (text_from_to a e) = 1 ∷ a ∷ e ∷ []

-- the place that is asked for: a name of any length, and occurrence, field, repetition, component and subcomponent
abbrev pub place_asked : Text → List ℕ → Place
place_asked name n = place name (get_or n 0 0) (get_or n 1 0) (get_or n 2 0) (get_or n 3 0) (get_or n 4 0)

-- how many bytes were written
abbrev pub size_numbers : ℕ → List ℕ
size_numbers n = n ∷ []

-- a part of the book: its start and its end
abbrev pub part_numbers : Part → List ℕ
part_numbers p = p.start ∷ p.end ∷ []
