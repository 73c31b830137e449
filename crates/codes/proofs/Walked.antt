-- The walk from code to code: whether a text is one of the codes that are left.
use mathlib.Core.Path.{◌≡◌, refl, sym, ap, ◌∙◌}
use Prim.Native.Nat.{ℕ, zero, suc, ◌+◌, ◌*◌, ◌-◌, ◌/◌, ◌%◌, ◌≤◌, ◌<◌}
use native.Mathlib.Omega.{arith}
use mathlib.Core.Bool.{Bool, true, false, ◌&&◌, ◌||◌, and-false}
use mathlib.Core.List.{List, [], ◌∷◌}
use lib.ListN.{length, get_or, take, drop, length-drop}
use lib.Seq.{length-take-le}
use lib.Dec.{eqb, ltb}
use borrow.Author.Tests.{eq-eqb, ne_eqb, eqb-true, eqb-false, ltb-true}
use Rattle.text.specs.Bytes.{Text, same, some, is_one}
use Rattle.text.proofs.Tests.{both, same_true, same_length}
use Rattle.profile.specs.Codes.{longest_code, leading_byte, following, codes_behind, codes_from, are_whole, are_codes}
use Rattle.codes.proofs.Spelled.{is_byte, whole-behind, behind-is, Next, next-code}

-- A TEXT OF ANOTHER LENGTH than a code may have is none of them
module _ (s : Text) (other : (k : ℕ) → k < longest_code → length s ≡ suc k → ⊥) where
  none-behind : (n : ℕ) (xs : List ℕ) → are_whole n xs ≡ true → some (same s) (drop 1 (codes_behind n xs)) ≡ false
  unfolding are_whole codes_behind some
  none-behind n [] e = refl
  none-behind zero (x ∷ xs) e =
      let h = both (ltb (following x) longest_code) (are_whole (following x) xs) e in
      let w = whole-behind (following x) xs h.1 in
      let is = behind-is (following x) xs w.there in
      let short = ltb-true (following x) longest_code h.0 in
      let t = take (following x) xs in
      let l : length t ≡ following x = length-take-le (following x) xs w.there in
      rw (is, same_length s (leading_byte x ∷ t) (λ z. other (following x) short (z ∙ ap suc l))) (rw is at (none-behind (following x) xs h.1))
  none-behind (suc n) (x ∷ xs) e =
      let b = both (is_byte x) (are_whole n xs) e in
      let is = behind-is n xs (whole-behind n xs b.1).there in
      rw is (rw is at (none-behind n xs b.1))

  pub none-fits : (xs : List ℕ) → are_codes xs ≡ true → false ≡ is_one s (codes_from xs)
  none-fits xs e = sym (none-behind 0 xs e)

-- ONE CODE: its first number tells its first byte and its length at once
number_same : (a x : ℕ) (b : Bool) → eqb a (x % 256) ≡ b → a < 256 → eqb x (x / 256 * 256 + a) ≡ b
number_same a x true e h =
    let f = eqb-true a (x % 256) e in
    eq-eqb x (x / 256 * 256 + a) (omega (arith, f))
number_same a x false e h =
    let f = eqb-false a (x % 256) e in
    ne_eqb x (x / 256 * 256 + a) (λ z. f (omega (arith, z)))

code_step : (a x : ℕ) (s t : Text) (b : Bool) → same s t ≡ b → length t ≡ following x → a < 256
    → (eqb a (leading_byte x) && b) ≡ (eqb x (length s * 256 + a) && b)
code_step a x s t true e l h =
    let z : length s ≡ x / 256 = ap length (same_true s t e) ∙ l in
    rw (z, number_same a x (eqb a (leading_byte x)) refl h)
code_step a x s t false e l h = rw (and-false (eqb a (leading_byte x)), and-false (eqb x (length s * 256 + a)))

code_same : (a x : ℕ) (s t : Text) → length t ≡ following x → a < 256 → same (a ∷ s) (leading_byte x ∷ t) ≡ (eqb x (length s * 256 + a) && same s t)
unfolding same
code_same a x s t l h = code_step a x s t (same s t) refl l h

-- WALKING from code to code
abbrev pub first_number : Text → ℕ
first_number s = (length s - 1) * 256 + get_or s 0 0

split-first : (s : Text) → 1 ≤ length s → s ≡ get_or s 0 0 ∷ drop 1 s
split-first [] h = absurd (omega arith)
split-first (a ∷ s) h = refl

module _ (x : ℕ) (xs : List ℕ) (s : Text) (filled : 1 ≤ length s) (first_byte : get_or s 0 0 < 256) (are : are_codes (x ∷ xs) ≡ true) where
  abbrev code : List ℕ
  code = take (following x) xs

  abbrev rest : List ℕ
  rest = drop (following x) xs

  abbrev next : Next x xs
  next = next-code x xs are

  one-is : is_one s (codes_from (x ∷ xs)) ≡ (eqb x (first_number s) && same (drop 1 s) code) || is_one s (codes_from rest)
  unfolding some
  one-is =
      let l : length code ≡ following x = length-take-le (following x) xs next.behind.there in
      let n : length (drop 1 s) ≡ length s - 1 = length-drop 1 s in
      let e : same s (leading_byte x ∷ code) ≡ (eqb x (first_number s) && same (drop 1 s) code) = ap (λ (t : Text). same t (leading_byte x ∷ code)) (split-first s filled) ∙ (code_same (get_or s 0 0) x (drop 1 s) code l first_byte ∙ rw n) in
      rw (next.codes, e)

  -- where the first number is the text's, the bytes that follow decide
  module _ (r : Bool) (told : r ≡ same (drop 1 s) code) where
    pub walk-found : x ≡ first_number s → r ≡ true → true ≡ is_one s (codes_from (x ∷ xs))
    walk-found e h = rw (one-is, eq-eqb x (first_number s) e, ← told, h)

    pub walk_past : r ≡ false → is_one s (codes_from rest) ≡ is_one s (codes_from (x ∷ xs))
    walk_past h = rw (one-is, ← told, h, and-false (eqb x (first_number s)))

  pub walk-other : (x ≡ first_number s → ⊥) → is_one s (codes_from rest) ≡ is_one s (codes_from (x ∷ xs))
  walk-other e = rw (one-is, ne_eqb x (first_number s) e)
