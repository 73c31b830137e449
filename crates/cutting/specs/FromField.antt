-- Inner: no entry's promise is made of this.
-- What stands of a text from a piece on, and of a segment from a field on. Only inner functions promise it.
use Rattle.std.specs.Prelude.{◌≡◌, ℕ, ◌+◌, [], get_or}
use Rattle.text.specs.Bytes.{Text}
use Rattle.text.specs.declared.marks.Marks.{Marks}
use Rattle.parts.specs.Split.{split, piece}
use Rattle.parts.specs.Descent.{in_repetition}
use Rattle.parts.specs.Span.{part_text}
use Rattle.frame.specs.Segments.{field}

-- r is what stands of t after n separators
abbrev pub Behind : ℕ → ℕ → Text → Text → Type 0
Behind sep n t r = (i : ℕ) → get_or (split sep r) i [] ≡ get_or (split sep t) (n + i) []

-- t is what stands of a segment from field f on
abbrev pub FieldsFrom : Marks → Text → ℕ → Text → Type 0
FieldsFrom q s f t = (i : ℕ) → get_or (split q.field t) i [] ≡ field q s (f + i)

-- the first repetition of the first of such fields, and the first leaf of what stands of a repetition from a component on
abbrev pub first_repetition : Marks → Text → Text
first_repetition q t = piece 1 (split q.repetition (piece 1 (split q.field t)))

abbrev pub first_leaf : Marks → Text → Text
first_leaf q t = part_text (in_repetition q 1 1) t
