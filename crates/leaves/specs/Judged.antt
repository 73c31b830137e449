-- Inner: no entry's promise is made of this.
-- What only inner functions promise of judging a repetition: its first broken check, told from where a reader stands.
use Rattle.std.specs.Prelude.{ℕ, ◌≡◌, Bool, List, [], Option, None, Some, Result, Ok, Err}
use Rattle.text.specs.Bytes.{Text, pick}
use Rattle.text.specs.declared.marks.Marks.{Marks}
use Rattle.escape.specs.Length.{Measures}
use Rattle.profile.specs.Table.{Simple, Leaf, of_type, no_such_day}
use Rattle.leaves.specs.declared.repetition.BrokenLeaf.{BrokenLeaf}
use Rattle.leaves.specs.declared.repetition.ReadRepetition.{ReadRepetition}
use Rattle.checks.specs.declared.reasons.Reason.{Reason}
use Rattle.checks.specs.declared.reasons.Reason.TheVariants.{NotOfItsType, NoSuchDay}
use Rattle.checks.specs.Reasons.{number_of_reason}
use Rattle.checks.specs.Place.{Place, place}
use Rattle.checks.specs.View.{is_filled}
use Rattle.checks.specs.Repetition.{entries_of}
use Rattle.checks.specs.Fault.{Verdict, accepted, fault, leaf_checks, repetition_checks, first_broken}

-- what is told of a leaf that stands there
abbrev pub told : Place → Result Unit Reason → Verdict
told p (Ok _) = accepted
told p (Err r) = fault p (number_of_reason r)

-- what is told of a repetition whose leaves stand at these places, by component and subcomponent
abbrev pub told_in : (ℕ → ℕ → Place) → Option BrokenLeaf → Verdict
told_in at None = accepted
told_in at (Some leaf) = fault (at leaf.component leaf.subcomponent) (number_of_reason leaf.reason)

-- which of a type's two checks a text breaks first: its form, then its day
abbrev pub type_reason : Simple → Text → Result Unit Reason
type_reason k t = pick (of_type k t) (pick (no_such_day k t) (Err NoSuchDay) (Ok tt)) (Err NotOfItsType)

-- A LEAF: its first broken check
abbrev pub ReadsLeaf : Marks → Leaf → Text → Result Unit Reason → Type 0
ReadsLeaf q l s r = (p : Place) → told p r ≡ first_broken (leaf_checks q p l s)

-- of a text that has no bad escape, and that a person reads as n bytes
abbrev pub ReadsPlain : Leaf → Text → ℕ → Result Unit Reason → Type 0
ReadsPlain l s n r = (q : Marks) → Measures q s (Some n) → ReadsLeaf q l s r

-- any such text will do at a leaf
abbrev pub TakesAny : Leaf → ℕ → Type 0
TakesAny l n = (q : Marks) (s : Text) → Measures q s (Some n) → ReadsLeaf q l s (Ok tt)

-- LEAVES THAT ARE ALL MISSING: the first broken check; whether leaves before them are filled is handed on
pub record ReadsMissing (ls : List Leaf) (filled : Bool) (r : ReadRepetition) : Type 0 where
  pub handed-on : r.filled ≡ filled
  pub first : (q : Marks) (n : Text) (o f k : ℕ) → told_in (place n o f k) r.broken
      ≡ first_broken (repetition_checks q n o f (record { number = k; entries = entries_of q ls [] }))

-- A REPETITION: whether it is filled, and its first broken check
pub record ReadsRepetition (q : Marks) (ls : List Leaf) (s : Text) (r : ReadRepetition) : Type 0 where
  pub filled : r.filled ≡ is_filled (entries_of q ls s)
  pub first : (n : Text) (o f k : ℕ) → told_in (place n o f k) r.broken
      ≡ first_broken (repetition_checks q n o f (record { number = k; entries = entries_of q ls s }))
