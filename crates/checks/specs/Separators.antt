-- No entry's promise is made of this: it is a theorem about the definitions.
-- MSH-1 is the field separator and MSH-2 the other four, each unsplit and Empty beyond its first leaf.
use Rattle.std.specs.Prelude.{ℕ, ◌≡◌, true, [], ◌∷◌}
use Rattle.text.specs.Bytes.{Text, bytes}
use Rattle.text.specs.Answer.{given}
use Rattle.text.specs.declared.marks.Marks.{Marks}
use Rattle.text.specs.Marks.{marks_of}
use Rattle.frame.specs.Frame.{framed}
use Rattle.checks.specs.Place.{Place, place, is_place, text_at}
use Rattle.checks.specs.LookUp.{Empty, text_from_to, look_up}

-- a place in the header, by its field, repetition, component and subcomponent
abbrev pub MSH : ℕ → ℕ → ℕ → ℕ → Place
MSH f r c b = place (bytes "MSH") 1 f r c b

-- the first leaf of a field: repetition, component and subcomponent 1
abbrev pub IsFirst : ℕ → ℕ → ℕ → Type 0
IsFirst r c b = (r ≡ 1) × (c ≡ 1) × (b ≡ 1)

-- a field of the header that is unsplit: at its first leaf this text, from this start up to this end; beyond it nothing, and Empty is what a look-up
-- answers at each place that may be asked for
pub record Unsplit (m : Text) (f : ℕ) (t : Text) (start end : ℕ) : Type 0 where
  pub text : text_at m (MSH f 1 1 1) ≡ t
  pub found : look_up m (MSH f 1 1 1) ≡ given (text_from_to start end)
  pub no_text : (r c b : ℕ) → (IsFirst r c b → ⊥) → text_at m (MSH f r c b) ≡ []
  pub empty : (r c b : ℕ) → (IsFirst r c b → ⊥) → is_place (MSH f r c b) ≡ true → look_up m (MSH f r c b) ≡ given Empty

-- the four after the field separator, in the order of 01
abbrev pub other_four : Marks → Text
other_four q = q.component ∷ q.repetition ∷ q.escape ∷ q.subcomponent ∷ []

pub record SeparatorsStand (m : Text) : Type 0 where
  pub msh_1 : Unsplit m 1 ((marks_of m).field ∷ []) 3 4
  pub msh_2 : Unsplit m 2 (other_four (marks_of m)) 4 8

-- THE SEPARATORS OF EVERY MESSAGE with a good frame, looked up
abbrev pub Separators : Type 0
Separators = (m : Text) → framed m ≡ true → SeparatorsStand m
