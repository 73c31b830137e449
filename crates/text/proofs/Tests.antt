-- Laws of the tests on bytes.
use mathlib.Core.Path.{◌≡◌, refl, ap}
use Prim.Native.Nat.{ℕ, suc, ◌≤◌}
use native.Mathlib.Omega.{arith}
use mathlib.Core.Bool.{Bool, true, false, ◌&&◌}
use mathlib.Core.List.{[], ◌∷◌}
use lib.ListN.{length}
use lib.Dec.{eqb, leb}
use lib.Pointwise.{pointwise}
use borrow.Author.Tests.{eq-eqb, ne_eqb, eqb-true, leb-true}
use Rattle.text.specs.Bytes.{Text, pick, empty, same}
use Rattle.text.specs.Ranges.{◌to◌, is_within}

-- what is false is not true
pub not-true : {A : Type 0} → false ≡ true → A
not-true e = absurd (let z : ◌≡◌ {A = ℕ} 0 1 = cc in omega arith)

pub both : (a b : Bool) → a && b ≡ true → (a ≡ true) × (b ≡ true)
both true b e = (refl, e)
both false b e = not-true e

-- a number within a range is neither below nor above it
pub within_low : (a b n : ℕ) → is_within (a to b) n ≡ true → a ≤ n
within_low a b n e = leb-true a n (both (leb a n) (leb n b) e).0

pub within-high : (a b n : ℕ) → is_within (a to b) n ≡ true → n ≤ b
within-high a b n e = leb-true n b (both (leb a n) (leb n b) e).1

-- texts that are tested equal are equal, and the other way round
pub same_true : (s t : Text) → same s t ≡ true → s ≡ t
unfolding same
same_true [] [] e = refl
same_true [] (y ∷ t) e = not-true e
same_true (x ∷ s) [] e = not-true e
same_true (x ∷ s) (y ∷ t) e =
    let h = both (eqb x y) (same s t) e in
    rw (eqb-true x y h.0, same_true s t h.1)

pub same_self : (s : Text) → same s s ≡ true
unfolding same
same_self [] = refl
same_self (x ∷ s) = rw (eq-eqb x x refl) (same_self s)

pub and-false : (b : Bool) → b && false ≡ false
and-false true = refl
and-false false = refl

-- whether a text is empty, by its length
pub empty-none : (t : Text) → length t ≡ 0 → empty t ≡ true
empty-none [] e = refl
empty-none (b ∷ t) e = absurd (omega arith)

pub empty-some : (t : Text) → (length t ≡ 0 → ⊥) → empty t ≡ false
empty-some [] n = absurd (n refl)
empty-some (b ∷ t) n = refl

pub empty-length : (t : Text) → eqb (length t) 0 ≡ empty t
empty-length [] = refl
empty-length (b ∷ t) = ne_eqb (suc (length t)) 0 (λ z. omega (arith, z))

-- texts of different lengths differ
pub same_length : (s t : Text) → (length s ≡ length t → ⊥) → same s t ≡ false
unfolding same
same_length [] [] h = absurd (h refl)
same_length [] (y ∷ t) h = refl
same_length (x ∷ s) [] h = refl
same_length (x ∷ s) (y ∷ t) h = rw (same_length s t (λ e. h (ap suc e))) (and-false (eqb x y))

-- `==` of two slices says that they are equal
pub pointwise-same : (s t : Text) → pointwise eqb s t ≡ same s t
unfolding same
pointwise-same [] [] = refl
pointwise-same [] (y ∷ t) = refl
pointwise-same (x ∷ s) [] = refl
pointwise-same (x ∷ s) (y ∷ t) = ap (λ b. eqb x y && b) (pointwise-same s t)

-- what holds of both holds of the one that is picked
pub picks : {A : Type 0} (P : A → Type 0) (b : Bool) {x y : A} → P x → P y → P (pick b x y)
picks P true h k = h
picks P false h k = k
