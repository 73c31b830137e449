-- Inner: no entry's promise is made of this.
-- What the code of the descent answers and is asked.
use Rattle.std.specs.Prelude.{ℕ, zero, suc, ◌+◌, List, [], ◌∷◌, length}
use Rattle.text.specs.Bytes.{Text}
use Rattle.text.specs.declared.marks.Marks.{Marks}
use Rattle.parts.specs.Split.{split, piece}
use Rattle.parts.specs.Start.{start}
use Rattle.parts.specs.Descent.{Step, step}
use Rattle.text.specs.declared.span.Span.{Span}
use Rattle.parts.specs.declared.Numbers.{Numbers}

-- a text that stands at a start: from there up to its end
abbrev pub span : ℕ → Text → Span
span k p = record { start = k; end = k + length p }

-- the part that is reached by those steps, by its bytes alone; and where it starts, as the code counts it
unfoldable pub part_text : List Step → Text → Text
part_text [] t = t
part_text (s ∷ ss) t = part_text ss (piece s.number (split s.mark t))

unfoldable pub part_start : List Step → Text → ℕ
part_start [] t = 0
part_start (s ∷ ss) t =
    start s.mark s.number t + part_start ss (piece s.number (split s.mark t))

-- what belongs to a depth: 4 a segment's fields, 3 a field, 2 a repetition, 1 a component
abbrev pub at_depth : ℕ → ℕ → ℕ → ℕ → ℕ → ℕ
at_depth zero f r c b = f
at_depth (suc zero) f r c b = b
at_depth (suc (suc zero)) f r c b = c
at_depth (suc (suc (suc zero))) f r c b = r
at_depth (suc (suc (suc (suc d)))) f r c b = f

abbrev pub mark_at_depth : Marks → ℕ → ℕ
mark_at_depth q d = at_depth d q.field q.repetition q.component q.subcomponent

abbrev pub number_at_depth : Numbers → ℕ → ℕ
number_at_depth n d = at_depth d n.field n.repetition n.component n.subcomponent

-- the steps from a depth down to the leaf
unfoldable pub steps_from : Marks → Numbers → ℕ → List Step
steps_from q n zero = []
steps_from q n (suc d) = step (mark_at_depth q (suc d)) (number_at_depth n (suc d)) ∷ steps_from q n d
