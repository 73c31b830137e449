-- A message with a good frame begins with its header.
use mathlib.Core.Path.{◌≡◌, refl, ap, ◌∙◌}
use Prim.Native.Nat.{ℕ}
use native.Mathlib.Omega.{arith}
use mathlib.Core.Bool.{true, false}
use mathlib.Core.List.{List, [], ◌∷◌, ◌++◌}
use lib.ListN.{length, get_or, take, drop}
use borrow.Author.Tests.{le-ltb}
use Rattle.text.specs.Bytes.{Text, bytes, cr, keep, same}
use Rattle.text.specs.Marks.{marks_of}
use Rattle.text.proofs.Tests.{same_true}
use Rattle.parts.specs.Split.{closed}
use Rattle.frame.specs.Segments.{segments, name, of_name, fewer}
use Rattle.frame.specs.Frame.{header, framed}
use Rattle.frame.proofs.Frame.{framed-tests, closed-segments}

-- segments that together begin with MSH: the first of them does
module _ (r : Text) where
  headed-first : (ss : List Text) → closed cr ss ≡ bytes "MSH" ++ r → (ss ≡ get_or ss 0 [] ∷ drop 1 ss) × (name (get_or ss 0 []) ≡ bytes "MSH")
  unfolding closed
  headed-first [] e = absurd (let z : ◌≡◌ {A = ℕ} 0 1 = cc in omega arith)
  headed-first ([] ∷ ss) e = absurd (let z : ◌≡◌ {A = ℕ} cr 77 = cc in omega arith)
  headed-first ((a ∷ []) ∷ ss) e = absurd (let z : ◌≡◌ {A = ℕ} cr 83 = cc in omega arith)
  headed-first ((a ∷ b ∷ []) ∷ ss) e = absurd (let z : ◌≡◌ {A = ℕ} cr 72 = cc in omega arith)
  headed-first ((a ∷ b ∷ c ∷ s) ∷ ss) e = (refl, cc)

headed-text : (m : Text) → take 9 m ≡ header (marks_of m) → m ≡ bytes "MSH" ++ drop 3 m
headed-text [] e = absurd (let z : ◌≡◌ {A = ℕ} 0 1 = cc in omega arith)
headed-text (a ∷ []) e = absurd (let z : ◌≡◌ {A = ℕ} 0 1 = cc in omega arith)
headed-text (a ∷ b ∷ []) e = absurd (let z : ◌≡◌ {A = ℕ} 0 1 = cc in omega arith)
headed-text (a ∷ b ∷ c ∷ m) e = cc

-- the first segment of a message with a good frame is its header
pub header-opens : (m : Text) → framed m ≡ true
    → (segments m ≡ get_or (segments m) 0 [] ∷ drop 1 (segments m)) × (name (get_or (segments m) 0 []) ≡ bytes "MSH")
header-opens m good =
    let tests = framed-tests m good in
    headed-first (drop 3 m) (segments m)
    (closed-segments m tests.closed_by_cr ∙ headed-text m (same_true (take 9 m) (header (marks_of m)) tests.headed))

-- it has a header
pub header-there : (m : Text) → framed m ≡ true → fewer m (bytes "MSH") 1 ≡ false
unfolding keep same
header-there m good =
    let opening = header-opens m good in
    let first : of_name (bytes "MSH") (segments m) ≡ get_or (segments m) 0 [] ∷ of_name (bytes "MSH") (drop 1 (segments m)) =
    ap (of_name (bytes "MSH")) opening.0 ∙ rw opening.1 in
    le-ltb (length (of_name (bytes "MSH") (segments m))) 1 (omega (arith, ap length first))
