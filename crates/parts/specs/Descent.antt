-- An entry's promise is made of this.
-- The descent into a part: from a field to its repetition, from there to a component, from there to a subcomponent.
use Rattle.std.specs.Prelude.{ℕ, List, [], ◌∷◌}
use Rattle.text.specs.declared.marks.Marks.{Marks}
use Rattle.parts.specs.Split.{Located, inside}

-- one step down: what the text is cut at, and the number of the piece wanted
pub record Step : Type 0 where
  pub mark : ℕ
  pub number : ℕ

abbrev pub step : ℕ → ℕ → Step
step k n = record { mark = k; number = n }

-- THE PART that is reached by those steps, with its start
unfoldable pub part : List Step → Located → Located
part [] t = t
part (s ∷ ss) t = part ss (inside s.mark s.number t)

-- the steps from a repetition to a subcomponent, and from a field to one
abbrev pub in_repetition : Marks → ℕ → ℕ → List Step
in_repetition q c b = step q.component c ∷ step q.subcomponent b ∷ []

abbrev pub in_field : Marks → ℕ → ℕ → ℕ → List Step
in_field q r c b = step q.repetition r ∷ in_repetition q c b
