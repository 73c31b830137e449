-- What holds of each member of a list, told of the members of a list that it is made of.
use mathlib.Core.Path.{◌≡◌, refl}
use Prim.Native.Nat.{ℕ, zero, suc, ◌≤◌}
use native.Mathlib.Omega.{arith}
use mathlib.Core.Bool.{Bool, true, false}
use mathlib.Core.List.{List, [], ◌∷◌, ◌++◌, map, flat_map}
use lib.ListN.{length}
use Rattle.text.specs.Bytes.{Text, pick, some, keep}
use Rattle.text.proofs.Tests.{not-true}
use Rattle.text.proofs.Lists.{All, or_either}
use Rattle.parts.specs.Split.{piece}

module _ {A : Type 0} where
  pub append-all : (P : A → Type 0) (l r : List A) → All P (l ++ r) → All P l × All P r
  append-all P [] r a = (tt, a)
  append-all P (x ∷ l) r a = let h = append-all P l r a.1 in ((a.0, h.0), h.1)

  -- a member kept or not, in front of others
  pub keep-step : (P : A → Type 0) (x : A) (l : List A) (b : Bool) → All P (pick b (x ∷ l) l) → (b ≡ true → P x) × All P l
  keep-step P x l true a = (λ e. a.0, a.1)
  keep-step P x l false a = (λ e. not-true e, a)

  pub keep_all : (P : A → Type 0) (f : A → Bool) (l : List A) → All P (keep f l) → All (λ x. f x ≡ true → P x) l
  unfolding keep
  keep_all P f [] a = tt
  keep_all P f (x ∷ l) a = let h = keep-step P x (keep f l) (f x) a in (h.0, keep_all P f l h.1)

  -- a member that passes a test which some member passes
  pub picked : (P : A → Type 0) (f : A → Bool) (l : List A) → All P l → some f l ≡ true → (x : A) × (P x × (f x ≡ true))
  unfolding some
  picked P f [] a e = not-true e
  picked P f (x ∷ l) a e = or_either (f x) (some f l) (λ h. (x, (a.0, h))) (λ h. picked P f l a.1 h) e

  pub all_of : (P : A → Type 0) → ((x : A) → P x) → (l : List A) → All P l
  all_of P h [] = tt
  all_of P h (x ∷ l) = (h x, all_of P h l)

  -- what holds of each where a test does
  pub all_where : (P : A → Type 0) (b : Bool) (l : List A) → (b ≡ true → All P l) → All (λ x. b ≡ true → P x) l
  all_where P b [] h = tt
  all_where P b (x ∷ l) h = (λ e. (h e).0, all_where P b l (λ e. (h e).1))

pub some-map : {A B : Type 0} (p : B → Bool) (f : A → B) (l : List A) → some p (map f l) ≡ some (λ x. p (f x)) l
unfolding some
some-map p f [] = refl
some-map p f (x ∷ l) = rw (some-map p f l)

pub map-all : {A B : Type 0} (P : B → Type 0) (f : A → B) (l : List A) → All P (map f l) → All (λ x. P (f x)) l
map-all P f [] a = tt
map-all P f (x ∷ l) a = (a.0, map-all P f l a.1)

pub flat_map-all : {A B : Type 0} (P : B → Type 0) (f : A → List B) (l : List A) → All P (flat_map f l) → All (λ x. All P (f x)) l
unfolding flat_map
flat_map-all P f [] a = tt
flat_map-all P f (x ∷ l) a = let h = append-all P (f x) (flat_map f l) a in (h.0, flat_map-all P f l h.1)

-- a piece, or no bytes where there is none
pub piece-all : (P : Text → Type 0) → P [] → (l : List Text) → All P l → (r : ℕ) → P (piece r l)
piece-all P none l a zero = none
piece-all P none [] a (suc i) = none
piece-all P none (x ∷ l) a (suc zero) = a.0
piece-all P none (x ∷ l) a (suc (suc i)) = piece-all P none l a.1 (suc i)

-- a piece that is there
pub member-all : (P : Text → Type 0) (l : List Text) → All P l → (o : ℕ) → 1 ≤ o → o ≤ length l → P (piece o l)
member-all P l a zero low high = absurd (omega arith)
member-all P [] a (suc i) low high = absurd (omega arith)
member-all P (x ∷ l) a (suc zero) low high = a.0
member-all P (x ∷ l) a (suc (suc i)) low high = member-all P l a.1 (suc i) (omega arith) (omega arith)

pub no_piece : (r : ℕ) → piece r [] ≡ []
no_piece zero = refl
no_piece (suc i) = refl
