-- An accepted message has what the slip of each of its groups needs.
use Prim.Native.Nat.{ℕ, ◌≤◌}
use mathlib.Core.Path.{◌≡◌}
use mathlib.Core.Bool.{true, false}
use Rattle.text.specs.Bytes.{Text, bytes}
use Rattle.text.specs.Marks.{marks_of}
use Rattle.escape.specs.Length.{Fits}
use Rattle.frame.specs.Frame.{framed}
use Rattle.frame.specs.Segments.{fewer}
use Rattle.profile.specs.Profile.{profile01}
use Rattle.reader.specs.Fault.{verdict, accepted}
use Rattle.reader.specs.Place.{Place, place, text_at}
use Rattle.slot.specs.Fields.{longest_control, longest_text}
use Rattle.reader.proofs.Plain.{text-plain}
use Rattle.reader.proofs.Patient.{patient-stands}
use Rattle.slip.proofs.Fitting.{Taken, Fitting}
use Rattle.slip.proofs.Count.{observations-most}
use Rattle.slip.proofs.Leaves.{control-fits, control-some, patient-fits, patient-some, placer-fits, filler-fits, filler-some, service-fits, service-some}

module _ (m : Text) (f : framed m ≡ true) (a : verdict profile01 m ≡ accepted) where
  taken : (p : Place) (most : ℕ) → Fits (marks_of m) most (text_at m p) → Taken (marks_of m) most (text_at m p)
  taken p most h = record { fits = h; plain = text-plain m p f }

  fitting : (g : ℕ) → 1 ≤ g → fewer m (bytes "OBR") g ≡ false → Fitting m g
  fitting g l e =
      let pid = patient-stands m f a in
      record {
        control = record { taken = taken (place (bytes "MSH") 1 10 1 1 1) longest_control (control-fits m f a); some = control-some m f a };
        patient = record { taken = taken (place (bytes "PID") 1 3 1 1 1) longest_text (patient-fits m f a pid); some = patient-some m f a pid };
        placer = taken (place (bytes "OBR") g 2 1 1 1) longest_text (placer-fits m f a g l e);
        filler = record { taken = taken (place (bytes "OBR") g 3 1 1 1) longest_text (filler-fits m f a g l e); some = filler-some m f a g l e };
        service = record { taken = taken (place (bytes "OBR") g 4 1 1 1) longest_text (service-fits m f a g l e); some = service-some m f a g l e };
        count = observations-most m g f a l e;
      }

pub accepted-fitting : (m : Text) (g : ℕ) → framed m ≡ true → verdict profile01 m ≡ accepted → 1 ≤ g → fewer m (bytes "OBR") g ≡ false → Fitting m g
accepted-fitting m g f a l e = fitting m f a g l e
