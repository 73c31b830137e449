-- The texts of a segment of the message.
use mathlib.Core.Path.{◌≡◌, refl, sym}
use Prim.Native.Nat.{ℕ, zero, suc, ◌<◌}
use native.Mathlib.Omega.{arith}
use mathlib.Core.Bool.{true}
use mathlib.Core.List.{List, []}
use lib.ListN.{length, get_or-eq_default}
use borrow.Author.Tests.{ltb-true}
use Rattle.text.specs.Bytes.{Text}
use Rattle.text.specs.Marks.{marks_of}
use Rattle.parts.specs.Split.{piece}
use Rattle.frame.specs.Segments.{segments, of_name, fewer, occurrence}
use Rattle.checks.proofs.Stands.{text-is}
use Rattle.checks.specs.Place.{place, leaf_at, text_at}
use Rattle.std.proofs.Common.{Option, None, Some}
use Rattle.text.specs.declared.span.Span.{Span}
use Rattle.reader.specs.Copied.{standing, Stood, segment_text}
use Rattle.reader.proofs.Seek.{standing-missing, standing-inside, standing-text}

-- a segment that is missing
piece-none : (l : List Text) (o : ℕ) → length l < o → piece o l ≡ []
piece-none l zero h = refl
piece-none l (suc i) h = get_or-eq_default l [] {n = i} (omega arith)

missing-none : (m n : Text) (o : ℕ) → fewer m n o ≡ true → [] ≡ occurrence m n o
missing-none m n o e = sym (piece-none (of_name n (segments m)) o (ltb-true (length (of_name n (segments m))) o e))

module _ (m n : Text) (o : ℕ) where
  -- an occurrence that was sought lies in the message, or is missing
  pub standing_stood : (s : Option Span) → s ≡ standing m n o → Stood m s
  standing_stood None h = tt
  standing_stood (Some s) h = standing-inside m n o s h

  pub standing-bytes : (s : Option Span) → s ≡ standing m n o → segment_text m s ≡ occurrence m n o
  standing-bytes None h = missing-none m n o (standing-missing m n o h)
  standing-bytes (Some s) h = standing-text m n o s h

  -- THE TEXT that is copied from it is the text at the place
  pub copied-text : (s : Option Span) (f c : ℕ) → s ≡ standing m n o
      → leaf_at (marks_of m) (segment_text m s) f 1 c 1 ≡ text_at m (place n o f 1 c 1)
  copied-text s f c h = rw (standing-bytes s h) (sym (text-is m (place n o f 1 c 1)))
