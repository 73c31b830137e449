-- Inner: no entry's promise is made of this.
-- Where a leaf starts, as the code counts it: also where there is none.
use Rattle.std.specs.Prelude.{ℕ, ◌+◌}
use Rattle.text.specs.Bytes.{Text, pick}
use Rattle.text.specs.declared.marks.Marks.{Marks}
use Rattle.text.specs.Marks.{marks_of}
use Rattle.parts.specs.Descent.{in_field}
use Rattle.parts.specs.Span.{part_start}
use Rattle.frame.specs.Segments.{occurrence, field, unsplit}
use Rattle.frame.specs.Starts.{occurrence_start, field_start}
use Rattle.checks.specs.Place.{Place}

unfoldable pub leaf_start : Marks → Text → ℕ → ℕ → ℕ → ℕ → ℕ
leaf_start q s f r c b = field_start q s f + pick (unsplit s f) 0 (part_start (in_field q r c b) (field q s f))

unfoldable pub start_at : Text → Place → ℕ
start_at m p =
    occurrence_start m p.name p.occurrence
    + leaf_start (marks_of m) (occurrence m p.name p.occurrence)
    p.field p.repetition p.component p.subcomponent
