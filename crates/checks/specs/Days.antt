-- No entry's promise is made of this: it is a theorem about the definitions.
-- When a leaf is told for its day.
use Rattle.std.specs.Prelude.{◌≡◌, true, false}
use Rattle.text.specs.Bytes.{Text}
use Rattle.text.specs.declared.marks.Marks.{Marks}
use Rattle.types.specs.Types.{is_dtm, has_day, day_exists}
use Rattle.profile.specs.Table.{Leaf, DTM}
use Rattle.profile.specs.Order.{reason_fits}
use Rattle.checks.specs.Place.{Place}
use Rattle.checks.specs.Fault.{fault, leaf_checks, first_broken}

-- WHERE REASON 13 IS TOLD, the leaf is of type DTM, and its text is in the form and has a day, which its month has not. (The reason of the leaf's list is
-- another one, 1 to 12)
abbrev pub ToldForItsDay : Type 0
ToldForItsDay =
    (q : Marks) (p : Place) (l : Leaf) (t : Text) → reason_fits l.list ≡ true → first_broken (leaf_checks q p l t) ≡ fault p 13
    → (l.type ≡ DTM) × ((is_dtm t ≡ true) × ((has_day t ≡ true) × (day_exists t ≡ false)))
