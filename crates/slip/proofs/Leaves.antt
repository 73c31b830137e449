-- The leaves that a slip copies: in an accepted message each has no bad escape and fits, and all but the placer's number are there.
use mathlib.Core.Path.{◌≡◌, refl}
use mathlib.Core.List.{flat_map}
use Prim.Native.Nat.{ℕ, ◌≤◌}
use native.Mathlib.Omega.{arith}
use mathlib.Core.Bool.{true, false}
use lib.ListN.{length}
use Rattle.text.specs.Bytes.{Text, bytes, some, every, same}
use Rattle.text.specs.Marks.{marks_of}
use Rattle.escape.specs.Length.{Fits}
use Rattle.frame.specs.Frame.{framed}
use Rattle.frame.specs.Segments.{fewer}
use Rattle.profile.specs.Noted.{noted}
use Rattle.profile.specs.Fields.{rows}
use Rattle.profile.specs.Profile.{profile01}
use Rattle.reader.specs.Place.{place, text_at}
use Rattle.slot.specs.Fields.{longest_control, longest_text}
use Rattle.reader.specs.Fault.{verdict, accepted}
use Rattle.frame.proofs.Header.{header-there}
use Rattle.reader.proofs.AcceptedRows.{accepted-fits, accepted-starred, accepted-only}

module _ (m : Text) (good : framed m ≡ true) (ok : verdict profile01 m ≡ accepted) where
  -- the message control ID, the only leaf of MSH-10
  pub control-fits : Fits (marks_of m) longest_control (text_at m (place (bytes "MSH") 1 10 1 1 1))
  unfolding flat_map some same profile01 noted rows
  control-fits = accepted-fits profile01 m ok (bytes "MSH") 1 (omega arith) (header-there m good) 10 1 1 longest_control refl 1

  pub control-some : 1 ≤ length (text_at m (place (bytes "MSH") 1 10 1 1 1))
  unfolding flat_map some every same profile01 noted rows
  control-some = accepted-only profile01 m ok (bytes "MSH") 1 (omega arith) (header-there m good) 10 1 1 refl refl refl

  -- the patient's number, PID-3
  module _ (there : fewer m (bytes "PID") 1 ≡ false) where
    pub patient-fits : Fits (marks_of m) longest_text (text_at m (place (bytes "PID") 1 3 1 1 1))
    unfolding flat_map some same profile01 noted rows
    patient-fits = accepted-fits profile01 m ok (bytes "PID") 1 (omega arith) there 3 1 1 longest_text refl 1

    pub patient-some : 1 ≤ length (text_at m (place (bytes "PID") 1 3 1 1 1))
    unfolding flat_map some every same profile01 noted rows
    patient-some = accepted-starred profile01 m ok (bytes "PID") 1 (omega arith) there 3 1 1 refl refl

  -- the placer's and the filler's number and the service of a group, OBR-2 to OBR-4
  module _ (g : ℕ) (low : 1 ≤ g) (there : fewer m (bytes "OBR") g ≡ false) where
    pub placer-fits : Fits (marks_of m) longest_text (text_at m (place (bytes "OBR") g 2 1 1 1))
    unfolding flat_map some same profile01 noted rows
    placer-fits = accepted-fits profile01 m ok (bytes "OBR") g low there 2 1 1 longest_text refl 1

    pub filler-fits : Fits (marks_of m) longest_text (text_at m (place (bytes "OBR") g 3 1 1 1))
    unfolding flat_map some same profile01 noted rows
    filler-fits = accepted-fits profile01 m ok (bytes "OBR") g low there 3 1 1 longest_text refl 1

    pub filler-some : 1 ≤ length (text_at m (place (bytes "OBR") g 3 1 1 1))
    unfolding flat_map some every same profile01 noted rows
    filler-some = accepted-starred profile01 m ok (bytes "OBR") g low there 3 1 1 refl refl

    pub service-fits : Fits (marks_of m) longest_text (text_at m (place (bytes "OBR") g 4 1 1 1))
    unfolding flat_map some same profile01 noted rows
    service-fits = accepted-fits profile01 m ok (bytes "OBR") g low there 4 1 1 longest_text refl 1

    pub service-some : 1 ≤ length (text_at m (place (bytes "OBR") g 4 1 1 1))
    unfolding flat_map some every same profile01 noted rows
    service-some = accepted-starred profile01 m ok (bytes "OBR") g low there 4 1 1 refl refl
