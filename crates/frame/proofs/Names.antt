-- Names, byte by byte.
use mathlib.Core.Path.{◌≡◌, refl, sym, ap}
use Prim.Native.Nat.{ℕ, ◌≤◌, ◌<◌}
use native.Mathlib.Omega.{arith}
use mathlib.Core.Bool.{Bool, true, false, ◌&&◌}
use mathlib.Core.List.{[], ◌∷◌}
use lib.ListN.{length, get_or, take, length-take}
use lib.Dec.{eqb}
use borrow.Author.Tests.{eq-eqb, ne_eqb, eqb-true, eqb-false}
use Rattle.text.specs.Bytes.{Text, same}
use Rattle.text.proofs.Tests.{same_length}
use Rattle.text.proofs.Lists.{and-true}
use Rattle.frame.specs.Segments.{named}

-- the three bytes that a name takes
abbrev pub three : Text → Text
three s = get_or s 0 0 ∷ get_or s 1 0 ∷ get_or s 2 0 ∷ []

pub named-short : (a b c : ℕ) (s : Text) → length s < 3 → named (a ∷ b ∷ c ∷ []) s ≡ false
named-short a b c s h = same_length (take 3 s) (a ∷ b ∷ c ∷ []) (λ e. omega (arith, e, length-take 3 s))

pub named-bytes : (a b c : ℕ) (s : Text) → 3 ≤ length s
    → named (a ∷ b ∷ c ∷ []) s ≡ eqb (get_or s 0 0) a && (eqb (get_or s 1 0) b && eqb (get_or s 2 0) c)
unfolding same
named-bytes a b c [] h = absurd (omega arith)
named-bytes a b c (x ∷ []) h = absurd (omega arith)
named-bytes a b c (x ∷ y ∷ []) h = absurd (omega arith)
named-bytes a b c (x ∷ y ∷ z ∷ s) h = rw (and-true (eqb z c))

-- of two texts compared it is no matter which comes first
eqb_swap : (x y : ℕ) (b : Bool) → eqb x y ≡ b → eqb y x ≡ b
eqb_swap x y true e = eq-eqb y x (sym (eqb-true x y e))
eqb_swap x y false e = ne_eqb y x (λ h. eqb-false x y e (sym h))

pub same_swap : (s t : Text) → same s t ≡ same t s
unfolding same
same_swap [] [] = refl
same_swap [] (y ∷ t) = refl
same_swap (x ∷ s) [] = refl
same_swap (x ∷ s) (y ∷ t) = rw (eqb_swap x y (eqb x y) refl) (ap (λ (b : Bool). eqb x y && b) (same_swap s t))
