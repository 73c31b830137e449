-- Laws of the numbers of names and types.
use mathlib.Core.Path.{◌≡◌, refl, sym, ◌∙◌}
use Prim.Native.Nat.{ℕ, suc, ◌+◌, ◌-◌, ◌≤◌, ◌<◌}
use native.Mathlib.Omega.{arith}
use mathlib.Core.Bool.{Bool, true, false}
use mathlib.Core.List.{List, [], ◌∷◌}
use lib.ListN.{length, get_or}
use lib.Dec.{eqb}
use borrow.Author.Tests.{ne_eqb, eqb-true, eqb-false}
use Rattle.text.specs.Bytes.{Text, pick, bytes, same}
use Rattle.text.proofs.Tests.{same_true, same_self, same_length}
use Rattle.text.proofs.Lists.{All}
use Rattle.profile.specs.Table.{SI, NM, DTM, TM, ST, TX, FT, ID, IS, of_type, no_such_day}
use Rattle.profile.specs.Lists.{value-types}
use Rattle.profile.specs.Numbers.{segment_names, simple_of, number_in, segment_number, type_number}

-- TYPES that take any text
any-text : (a b c d : Bool) (t : Text) → true ≡ of_type (pick a ST (pick b TX (pick c FT (pick d ID IS)))) t
any-text true b c d t = refl
any-text false true c d t = refl
any-text false false true d t = refl
any-text false false false true t = refl
any-text false false false false t = refl

pub other-type : (n : ℕ) (t : Text) → (n ≡ 1 → ⊥) → (n ≡ 2 → ⊥) → (n ≡ 3 → ⊥) → (n ≡ 4 → ⊥) → true ≡ of_type (simple_of n) t
other-type n t a b c d = rw (ne_eqb n 1 a, ne_eqb n 2 b, ne_eqb n 3 c, ne_eqb n 4 d) (any-text (eqb n 5) (eqb n 6) (eqb n 7) (eqb n 8) t)

-- TYPES whose texts name no day
no_date : (a b d e f g h : Bool) (t : Text)
    → no_such_day (pick a SI (pick b NM (pick false DTM (pick d TM (pick e ST (pick f TX (pick g FT (pick h ID IS)))))))) t ≡ false
no_date true b d e f g h t = refl
no_date false true d e f g h t = refl
no_date false false true e f g h t = refl
no_date false false false true f g h t = refl
no_date false false false false true g h t = refl
no_date false false false false false true h t = refl
no_date false false false false false false true t = refl
no_date false false false false false false false t = refl

pub other_day : (n : ℕ) (t : Text) → (n ≡ 3 → ⊥) → no_such_day (simple_of n) t ≡ false
other_day n t e = rw (ne_eqb n 3 e) (no_date (eqb n 1) (eqb n 2) (eqb n 4) (eqb n 5) (eqb n 6) (eqb n 7) (eqb n 8) t)

pub not-zero : (n : ℕ) → (n ≡ 0 → ⊥) → 1 ≤ n
not-zero n e = omega (arith, e)

-- WHICH NAME has a number, counted from k
module _ (n : Text) where
  named_step : (k j r : ℕ) (x : Text) (ns : List Text) (b : Bool) → same x n ≡ b
      → (r ≡ j → (suc (suc k) ≤ j) × ((j ≤ suc k + length ns) × (n ≡ get_or ns (j - suc (suc k)) [])))
      → pick b (suc k) r ≡ j
      → (suc k ≤ j) × ((j ≤ k + length (x ∷ ns)) × (n ≡ get_or (x ∷ ns) (j - suc k) []))
  named_step k j r x ns true e ih h =
      let z : j - suc k ≡ 0 = omega arith in
      (omega arith, (omega arith, rw z (sym (same_true x n e))))
  named_step k j r x ns false e ih h =
      let w = ih h in
      let z : j - suc k ≡ suc (j - suc (suc k)) = omega (arith, w.0) in
      (omega (arith, w.0), (omega (arith, w.1.0), rw z w.1.1))

  named_in : (k j : ℕ) (ns : List Text) → 1 ≤ j → number_in 0 (suc k) ns n ≡ j
      → (suc k ≤ j) × ((j ≤ k + length ns) × (n ≡ get_or ns (j - suc k) []))
  unfolding number_in
  named_in k j [] l e = absurd (omega arith)
  named_in k j (x ∷ ns) l e = named_step k j (number_in 0 (suc (suc k)) ns n) x ns (same x n) refl (named_in (suc k) j ns l) e

  pub named-number : (k : ℕ) → segment_number n ≡ k → 1 ≤ k → (k ≤ 7) × (n ≡ get_or segment_names (k - 1) [])
  named-number k e l = (named_in 0 k segment_names l e).1

  pub is-msh : segment_number n ≡ 1 → n ≡ bytes "MSH"
  is-msh e = (named-number 1 e (omega arith)).1

  -- a name has three letters
  not_three : (k : ℕ) (ns : List Text) → All (λ (x : Text). length x ≡ 3) ns → (length n ≡ 3 → ⊥) → number_in 0 k ns n ≡ 0
  unfolding number_in
  not_three k [] a l = refl
  not_three k (x ∷ ns) a l =
      rw (same_length x n (λ e. l (sym e ∙ a.0))) (not_three (suc k) ns a.1 l)

  pub no_number : (length n ≡ 3 → ⊥) → segment_number n ≡ 0
  no_number l = not_three 1 segment_names (refl, (refl, (refl, (refl, (refl, (refl, (refl, tt))))))) l

-- the header's number is the first
header-other : (n : Text) (k : ℕ) (b : Bool) → same n (bytes "MSH") ≡ b → segment_number n ≡ k → (k ≡ 1 → ⊥) → b ≡ false
unfolding number_in same
header-other n k true s e h = absurd (h (sym e ∙ rw (same_true n (bytes "MSH") s)))
header-other n k false s e h = refl

header-step : (n : Text) (k : ℕ) (b : Bool) → eqb k 1 ≡ b → segment_number n ≡ k → same n (bytes "MSH") ≡ b
header-step n k true t e = rw (is-msh n (e ∙ eqb-true k 1 t)) (same_self (bytes "MSH"))
header-step n k false t e = header-other n k (same n (bytes "MSH")) refl e (eqb-false k 1 t)

pub header-number : (n : Text) (k : ℕ) → segment_number n ≡ k → same n (bytes "MSH") ≡ eqb k 1
header-number n k e = header-step n k (eqb k 1) refl e

-- the numbers of types
range_step : (b : Bool) (k none j : ℕ) → k < none → (suc k ≤ j) × (j ≤ none) → (k ≤ pick b k j) × (pick b k j ≤ none)
range_step true k none j l h = (omega arith, omega arith)
range_step false k none j l h = (omega arith, omega arith)

number_range : (k none : ℕ) (ns : List Text) (t : Text) → k + length ns ≤ none → (k ≤ number_in none k ns t) × (number_in none k ns t ≤ none)
unfolding number_in
number_range k none [] t l = (omega arith, omega arith)
number_range k none (n ∷ ns) t l =
    range_step (same n t) k none (number_in none (suc k) ns t) (omega arith) (number_range (suc k) none ns t (omega arith))

pub type_number_range : (t : Text) → (8 ≤ type_number t) × (type_number t ≤ 16)
type_number_range t = number_range 8 16 value-types t (omega arith)
