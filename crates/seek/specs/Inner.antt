-- Inner: no entry's promise is made of this.
-- What only inner functions promise: where the leaf of a segment lies.
use Rattle.std.specs.Prelude.{ℕ, ◌+◌, ◌≤◌, length, drop}
use Rattle.text.specs.Bytes.{Text, within}
use Rattle.text.specs.declared.span.Span.{Span}
use Rattle.text.specs.declared.marks.Marks.{Marks}
use Rattle.parts.specs.declared.Numbers.{Numbers}
use Rattle.parts.specs.Span.{part_text, part_start}
use Rattle.parts.specs.Span.{steps_from}
use Rattle.checks.specs.Place.{leaf_at}
use Rattle.checks.specs.Starts.{leaf_start}
use Rattle.checks.specs.Shown.{Found, shown}

-- a span lies in the message, and its bytes
abbrev pub LiesIn : Span → Text → Type 0
LiesIn s m = (s.start ≤ s.end) × (s.end ≤ length m)

abbrev pub segment : Span → Text → Text
segment s m = within s.start s.end m

-- the leaf of a segment that starts at k
abbrev pub leaf_found : Marks → Numbers → ℕ → Text → Found
leaf_found q n k s =
    shown (k + leaf_start q s n.field n.repetition n.component n.subcomponent)
    (leaf_at q s n.field n.repetition n.component n.subcomponent)

-- the leaf of the fields that stand after so many bytes of such a segment
abbrev pub leaf_behind : Marks → Numbers → ℕ → ℕ → Text → Found
leaf_behind q n k skip s =
    shown (k + (skip + part_start (steps_from q n 4) (drop skip s))) (part_text (steps_from q n 4) (drop skip s))
