-- The control number as it is copied from the message's header: its test, and its writing.
use mathlib.Core.Path.{◌≡◌, refl, ◌∙◌}
use Prim.Native.Nat.{ℕ}
use native.Mathlib.Omega.{arith}
use mathlib.Core.Bool.{Bool, ◌||◌}
use mathlib.Core.List.{[], ◌∷◌}
use lib.ListN.{length}
use lib.Dec.{eqb}
use borrow.Author.Tests.{ne_eqb}
use Rattle.text.specs.Bytes.{Text, bytes, empty}
use Rattle.text.specs.declared.marks.Marks.{Marks}
use Rattle.text.specs.Marks.{marks_of}
use Rattle.text.specs.declared.span.Span.{Span}
use Rattle.std.proofs.Common.{Option}
use Rattle.profile.specs.Limits.{control_limit}
use Rattle.reader.specs.Copied.{standing, segment_text}
use Rattle.reader.specs.FromField.{FieldsFrom, first_repetition, first_leaf}
use Rattle.reader.proofs.Copied.{standing-bytes}
use Rattle.heading.specs.Header.{is_unfit}
use Rattle.heading.specs.Inner.{HeaderFrom}
use Rattle.heading.proofs.Heading.{leaf-copied}
use Rattle.reply.specs.Reply.{control, no_control}

empty-length : (t : Text) → eqb (length t) 0 ≡ empty t
empty-length [] = refl
empty-length (x ∷ t) = ne_eqb (length (x ∷ t)) 0 (λ e. omega arith)

-- what stands of the segment that was sought stands of the header
pub header-from : (m : Text) (s : Option Span) → s ≡ standing m (bytes "MSH") 1 → (f : ℕ) (t : Text)
    → FieldsFrom (marks_of m) (segment_text m s) f t → HeaderFrom m f t
header-from m s h f t from = rw (standing-bytes m (bytes "MSH") 1 s h) at from

module _ (m tenth : Text) (from : HeaderFrom m 10 tenth) {q : Marks} (k : q ≡ marks_of m) (t : Text) (e : t ≡ first_leaf q (first_repetition q tenth)) where
  pub control-copied : t ≡ control m
  control-copied = (rw k at e) ∙ leaf-copied m 10 tenth from (omega arith)

  pub control-tested : (u : Bool) → u ≡ is_unfit q control_limit t → (eqb (length t) 0 || u) ≡ no_control m
  control-tested u w = rw (w, k, empty-length t, control-copied)
