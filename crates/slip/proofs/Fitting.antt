-- What an accepted message has for the slip of a group.
use Prim.Native.Nat.{ℕ, ◌≤◌}
use mathlib.Core.Path.{◌≡◌}
use mathlib.Core.Bool.{true}
use lib.ListN.{length}
use Rattle.text.specs.Bytes.{Text, bytes, printable, every}
use Rattle.escape.specs.Length.{Fits}
use Rattle.text.specs.Marks.{marks_of}
use Rattle.text.specs.declared.marks.Marks.{Marks}
use Rattle.reader.specs.Place.{place, text_at}
use Rattle.reader.specs.Observations.{observations_of}
use Rattle.slot.specs.Fields.{longest_control, longest_text, greatest_count}

-- a text that a slip takes, and one that it must have
pub record Taken (q : Marks) (most : ℕ) (t : Text) : Type 0 where
  pub fits : Fits q most t
  pub plain : every printable t ≡ true

pub record Filled (q : Marks) (most : ℕ) (t : Text) : Type 0 where
  pub taken : Taken q most t
  pub some : 1 ≤ length t

pub record Fitting (m : Text) (g : ℕ) : Type 0 where
  pub control : Filled (marks_of m) longest_control (text_at m (place (bytes "MSH") 1 10 1 1 1))
  pub patient : Filled (marks_of m) longest_text (text_at m (place (bytes "PID") 1 3 1 1 1))
  pub placer : Taken (marks_of m) longest_text (text_at m (place (bytes "OBR") g 2 1 1 1))
  pub filler : Filled (marks_of m) longest_text (text_at m (place (bytes "OBR") g 3 1 1 1))
  pub service : Filled (marks_of m) longest_text (text_at m (place (bytes "OBR") g 4 1 1 1))
  pub count : observations_of m g ≤ greatest_count
