-- Inner: no entry's promise is made of this.
-- What only inner functions promise and ask for.
use Rattle.std.specs.Prelude.{ℕ, ◌≤◌, Result}
use Rattle.text.specs.declared.refusal.Refusal.{Refusal}
use Rattle.parts.specs.declared.Numbers.{Numbers}
use Rattle.seek.specs.declared.Found.{Found}
use Rattle.reader.specs.declared.Place.{Place}
use Rattle.reader.specs.Part.{start_of, end_of}

-- the part that an answer names lies in so many bytes
abbrev pub Inside : Result Found Refusal → ℕ → Type 0
Inside f n = (start_of f ≤ end_of f) × (end_of f ≤ n)

-- the numbers of a place within its segment
abbrev pub numbers_of : Place → Numbers
numbers_of p =
    record { field = p.field; repetition = p.repetition; component = p.component; subcomponent = p.subcomponent }
