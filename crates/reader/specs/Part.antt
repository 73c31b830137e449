-- An entry's promise is made of this.
-- The very part of the message that a look-up answers with. (The very part of lent bytes stands in text/specs/Part.antt.)
use Rattle.std.specs.Prelude.{ℕ, Result, Ok, Err}
pub use Rattle.text.specs.Part.{VeryPart, SamePart}
use Rattle.text.specs.declared.refusal.Refusal.{Refusal}
use Rattle.seek.specs.declared.Found.{Found}
use Rattle.seek.specs.declared.Found.TheVariants as found

-- the part that an answer names: of no text, no bytes at the message's start
abbrev pub start_of : Result Found Refusal → ℕ
start_of (Ok (found.Text s)) = s.start
start_of (Ok found.Empty) = 0
start_of (Err r) = 0

abbrev pub end_of : Result Found Refusal → ℕ
end_of (Ok (found.Text s)) = s.end
end_of (Ok found.Empty) = 0
end_of (Err r) = 0
