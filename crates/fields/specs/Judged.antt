-- Inner: no entry's promise is made of this.
-- What only inner functions promise of judging a field: its first broken check, told from where a reader stands.
use Rattle.std.specs.Prelude.{ℕ, ◌≡◌, false, length, ltb, Option, None, Some}
use mathlib.Core.List.{List, flat_map}
use Rattle.text.specs.Bytes.{Text}
use Rattle.text.specs.declared.marks.Marks.{Marks}
use Rattle.profile.specs.Table.{Leaf}
use Rattle.checks.specs.Reasons.{number_of_reason}
use Rattle.fields.specs.declared.field.BrokenInField.{BrokenInField}
use Rattle.fields.specs.declared.field.ReadField.{ReadField}
use Rattle.checks.specs.Place.{Place, place}
use Rattle.checks.specs.View.{Repetition}
use Rattle.checks.specs.Repetition.{entries_of, filled_from, repetitions_in}
use Rattle.checks.specs.Fault.{Verdict, accepted, fault, repetition_checks, starts_filled, first_broken}

-- A FIELD: whether it has too many repetitions, whether its first is filled, and the first broken check of its filled ones
abbrev pub filled_in : Marks → List Leaf → Text → List Repetition
filled_in q ls x = filled_from 1 (entries_of q ls) (repetitions_in q x)

-- what is told of a field whose leaves stand at these places, by repetition, component and subcomponent
abbrev pub told_in_field : (ℕ → ℕ → ℕ → Place) → Option BrokenInField → Verdict
told_in_field at None = accepted
told_in_field at (Some b) = fault (at b.repetition b.leaf.component b.leaf.subcomponent) (number_of_reason b.leaf.reason)

pub record ReadsField (q : Marks) (ls : List Leaf) (most : ℕ) (x : Text) (r : ReadField) : Type 0 where
  pub surplus : r.surplus ≡ ltb most (length (repetitions_in q x))
  pub filled : r.filled ≡ starts_filled (filled_in q ls x)
  pub first : r.surplus ≡ false → (n : Text) (o f : ℕ) → told_in_field (place n o f) r.broken
      ≡ first_broken (flat_map (repetition_checks q n o f) (filled_in q ls x))
