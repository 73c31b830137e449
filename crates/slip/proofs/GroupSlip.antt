-- The slip of the group whose OBR stands at a place: its texts are copied from there, and they fit.
use mathlib.Core.Path.{◌≡◌, ◌∙◌}
use Prim.Native.Nat.{ℕ, ◌+◌, ◌≤◌}
use native.Mathlib.Omega.{arith}
use mathlib.Core.Bool.{true}
use lib.ListN.{drop, replicate}
use Rattle.text.specs.Bytes.{Text, bytes}
use Rattle.text.specs.Marks.{marks_of}
use Rattle.text.specs.declared.marks.Marks.{Marks}
use Rattle.escape.specs.Length.{Fits}
use Rattle.std.proofs.Common.{Option, Some}
use Rattle.text.specs.declared.span.Span.{Span}
use Rattle.frame.specs.Frame.{framed}
use Rattle.frame.specs.Segments.{segments}
use Rattle.reader.specs.Copied.{standing}
use Rattle.reader.proofs.Seek.{standing_enough}
use Rattle.profile.specs.Profile.{profile01}
use Rattle.reader.specs.Copied.{segment_text}
use Rattle.reader.specs.Fault.{verdict, accepted}
use Rattle.reader.specs.Place.{place, leaf_at, text_at}
use Rattle.reader.proofs.Copied.{copied-text}
use Rattle.slot.specs.Fields.{longest_control, longest_text}
use Rattle.slot.specs.Slot.{slot_size, slip_of}
use Rattle.slot.specs.Inner.{Fillable, values_of}
use Rattle.slot.specs.declared.Values.{Values}
use Rattle.reader.specs.Observations.{observations, observations_of}
use Rattle.slip.specs.Slip.{slip_text}
use Rattle.slip.specs.Inner.{IsOrder}
use Rattle.slip.proofs.Fitting.{Taken}
use Rattle.slip.proofs.Accepted.{accepted-fitting}
use Rattle.slip.proofs.Groups.{group_count}

-- a text that an accepted message has for a slip fits
taken-fits : (q q' : Marks) (t t' : Text) (most : ℕ) → q ≡ q' → t ≡ t' → most ≤ longest_text → Taken q' most t' → Fits q longest_text t
taken-fits q q' t t' most e k l f = rw (e, k) (record { good = f.fits.good; short = omega (arith, f.fits.short) })

-- what is read for a slip
pub record IsRead (m : Text) (order : Span) (header patient : Option Span) (q : Marks) (v : Values) : Type 0 where
  pub marks : q ≡ marks_of m
  pub header-stands : header ≡ standing m (bytes "MSH") 1
  pub patient-stands : patient ≡ standing m (bytes "PID") 1
  pub control-text : v.control.now ≡ leaf_at (marks_of m) (segment_text m header) 10 1 1 1
  pub patient-text : v.patient.now ≡ leaf_at (marks_of m) (segment_text m patient) 3 1 1 1
  pub placer-text : v.placer.now ≡ leaf_at (marks_of m) (segment_text m (Some order)) 2 1 1 1
  pub filler-text : v.filler.now ≡ leaf_at (marks_of m) (segment_text m (Some order)) 3 1 1 1
  pub service-text : v.service.now ≡ leaf_at (marks_of m) (segment_text m (Some order)) 4 1 1 1
  pub counted : v.count ≡ observations (segments (drop (order.end + 1) m))

module _ {m : Text} {order : Span} {header patient : Option Span} {q : Marks} {v : Values}
    (r : IsRead m order header patient q v) (g : ℕ) (o : IsOrder m g order) where
  control-read : v.control.now ≡ text_at m (place (bytes "MSH") 1 10 1 1 1)
  control-read = r.control-text ∙ copied-text m (bytes "MSH") 1 header 10 1 r.header-stands

  patient-read : v.patient.now ≡ text_at m (place (bytes "PID") 1 3 1 1 1)
  patient-read = r.patient-text ∙ copied-text m (bytes "PID") 1 patient 3 1 r.patient-stands

  order-read : (f : ℕ) → leaf_at (marks_of m) (segment_text m (Some order)) f 1 1 1 ≡ text_at m (place (bytes "OBR") g f 1 1 1)
  order-read f = copied-text m (bytes "OBR") g (Some order) f 1 o.1

  pub group_fits : framed m ≡ true → verdict profile01 m ≡ accepted → (slip : Text) → slip ≡ replicate slot_size 0 → Fillable q slip v
  group_fits f a slip z =
      let fit = accepted-fitting m g f a o.0 (standing_enough m (bytes "OBR") g order o.1) in
      record {
        zeros = z;
        takes-control = taken-fits q _ v.control.now _ longest_control r.marks control-read (omega arith) fit.control.taken;
        takes-patient = taken-fits q _ v.patient.now _ longest_text r.marks patient-read (omega arith) fit.patient.taken;
        takes-placer = taken-fits q _ v.placer.now _ longest_text r.marks (r.placer-text ∙ order-read 2) (omega arith) fit.placer;
        takes-filler = taken-fits q _ v.filler.now _ longest_text r.marks (r.filler-text ∙ order-read 3) (omega arith) fit.filler.taken;
        takes-service = taken-fits q _ v.service.now _ longest_text r.marks (r.service-text ∙ order-read 4) (omega arith) fit.service.taken;
      }

  -- THE SLIP of the group
  pub group_slip : (slip : Text) → slip ≡ slip_of (values_of q v) → slip ≡ slip_text m g
  unfolding slip_text
  group_slip slip s =
      let c : v.count ≡ observations_of m g = r.counted ∙ (group_count m g order o.0 o.1).1 in
      s
      ∙ rw (
        r.marks,
        control-read,
        patient-read,
        r.placer-text ∙ order-read 2,
        r.filler-text ∙ order-read 3,
        r.service-text ∙ order-read 4,
        c,
      )
