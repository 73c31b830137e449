-- Inner: no entry's promise is made of this.
-- What only inner functions promise and ask for.
use Rattle.std.specs.Prelude.{◌≡◌, List, [], ◌∷◌, replicate}
use Rattle.text.specs.Bytes.{Text}
use Rattle.escape.specs.Escape.{resolved}
use Rattle.escape.specs.Length.{Fits}
use Rattle.tags.specs.Fields.{longest_text}
use Rattle.text.specs.declared.marks.Marks.{Marks}
use Rattle.slot.specs.declared.Values.{Values}
use Rattle.slot.specs.Slot.{Tagged, tagged, two_bytes, slot_size}

-- the slot is all zeros, and a slip takes each of the five texts
pub record Fillable (q : Marks) (slip : Text) (v : Values) : Type 0 where
  pub zeros : slip ≡ replicate slot_size 0
  pub takes-control : Fits q longest_text v.control.now
  pub takes-patient : Fits q longest_text v.patient.now
  pub takes-placer : Fits q longest_text v.placer.now
  pub takes-filler : Fits q longest_text v.filler.now
  pub takes-service : Fits q longest_text v.service.now

-- the values of a slip made of five texts and a count
abbrev pub values_of : Marks → Values → List Tagged
values_of q v =
    tagged 1 (resolved q v.control.now)
    ∷ tagged 2 (resolved q v.patient.now)
    ∷ tagged 3 (resolved q v.placer.now)
    ∷ tagged 4 (resolved q v.filler.now)
    ∷ tagged 5 (resolved q v.service.now)
    ∷ tagged 6 (two_bytes v.count)
    ∷ []
