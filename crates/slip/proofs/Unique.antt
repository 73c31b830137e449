-- What a filing promises leaves one answer, and one book.
use Prim.Native.Nat.{ℕ}
use mathlib.Core.Path.{◌≡◌, refl, sym, ◌∙◌}
use Rattle.text.specs.Bytes.{Text}
use Rattle.profile.specs.Table.{Table}
use Rattle.std.proofs.Common.{Result, Ok, Err}
use Rattle.text.specs.declared.refusal.Refusal.{Refusal}
use Rattle.slip.specs.Told.{filed_of}
use Rattle.slip.specs.Promise.{Files}

-- an answer is what is told of it
filed-same : (r r' : Result Unit Refusal) → filed_of r ≡ filed_of r' → r ≡ r'
filed-same (Err a) (Err b) e = cc
filed-same (Err a) (Ok u) e = cc
filed-same (Ok u) (Err b) e = cc
filed-same (Ok u) (Ok v) e = refl

pub file_unique : (T : Table) (m : Text) (g k : ℕ) (before : Text) (r r' : Result Unit Refusal) (after after' : Text) → Files T m g k before r after → Files T m g k before r' after'
    → (r ≡ r') × (after ≡ after')
file_unique T m g k before r r' after after' p p' =
    (filed-same r r' (p.answer ∙ sym p'.answer), p.book ∙ sym p'.book)
