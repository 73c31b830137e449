-- What a call promises leaves one answer, and one buffer where it is lent one.
use Rattle.std.proofs.Common.{Option, Some, None, Result, Ok, Err}
use Prim.Native.Nat.{ℕ}
use mathlib.Core.Path.{◌≡◌, refl, sym, ap, ◌∙◌}
use Rattle.text.specs.Bytes.{Text}
use Rattle.text.specs.Answer.{written_of}
use Rattle.text.specs.declared.marks.Marks.{Marks}
use Rattle.text.proofs.Tests.{not-true}
use Rattle.escape.specs.Promise.{Resolves}
use Rattle.escape.specs.Length.{Measures}
use Rattle.text.specs.declared.refusal.Refusal.{Refusal}

-- an answer is what is told of it
pub written_same : (r r' : Result ℕ Refusal) → written_of r ≡ written_of r' → r ≡ r'
written_same (Err a) (Err b) e = cc
written_same (Err a) (Ok n) e = cc
written_same (Ok n) (Err a) e = cc
written_same (Ok n) (Ok m) e = cc

pub length_unique : (q : Marks) (t : Text) (r s : Option ℕ) → Measures q t r → Measures q t s → r ≡ s
length_unique q t None None a b = refl
length_unique q t None (Some n) a b = not-true (sym b.0 ∙ a)
length_unique q t (Some n) None a b = not-true (sym a.0 ∙ b)
length_unique q t (Some n) (Some k) a b = ap Some (a.1 ∙ sym b.1)

pub resolve_unique : (t before : Text) (r r' : Result ℕ Refusal) (after after' : Text) → Resolves t before r after → Resolves t before r' after'
    → (r ≡ r') × (after ≡ after')
resolve_unique t before r r' after after' p p' =
    (written_same r r' (p.answer ∙ sym p'.answer), p.buffer ∙ sym p'.buffer)
