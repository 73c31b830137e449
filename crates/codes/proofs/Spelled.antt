-- Codes that stand one after another: the first of them and those after it, told from where a reader stands.
use mathlib.Core.Path.{◌≡◌, refl, ap, subst, ◌∙◌}
use Prim.Native.Nat.{ℕ, zero, suc, ◌+◌, ◌-◌, ◌≤◌, ◌<◌}
use native.Mathlib.Omega.{arith}
use mathlib.Core.Bool.{Bool, true}
use mathlib.Core.List.{List, [], ◌∷◌}
use lib.ListN.{length, get_or, take, drop, length-take}
use lib.Seq.{drop-cons, drop-drop, take-take}
use lib.Dec.{ltb}
use borrow.Author.Tests.{eqb-true, ltb-true}
use Rattle.text.specs.Bytes.{every, within}
use Rattle.text.proofs.Tests.{both}
use Rattle.text.proofs.Lists.{and_both, drop-take}
use Rattle.profile.specs.Codes.{longest_code, leading_byte, following, with_first, codes_behind, codes_from, are_whole, are_codes}

-- numbers of which n still belong to a code: so many there are, each a byte, and after them stand codes
abbrev pub is_byte : ℕ → Bool
is_byte x = ltb x 256

pub record BytesBehind (n : ℕ) (xs : List ℕ) : Type 0 where
  pub there : n ≤ length xs
  pub bytes : every is_byte (take n xs) ≡ true
  pub rest : are_codes (drop n xs) ≡ true

pub whole-behind : (n : ℕ) (xs : List ℕ) → are_whole n xs ≡ true → BytesBehind n xs
unfolding are_whole every
whole-behind zero xs e = record { there = omega arith; bytes = refl; rest = e }
whole-behind (suc n) [] e = absurd (omega (arith, eqb-true (suc n) 0 e))
whole-behind (suc n) (x ∷ xs) e =
    let b = both (is_byte x) (are_whole n xs) e in
    let h = whole-behind n xs b.1 in
    record {
      there = omega (arith, h.there);
      bytes = and_both (is_byte x) (every is_byte (take n xs)) b.0 h.bytes;
      rest = h.rest;
    }

pub behind-is : (n : ℕ) (xs : List ℕ) → n ≤ length xs → codes_behind n xs ≡ take n xs ∷ codes_from (drop n xs)
unfolding codes_behind
behind-is zero [] h = refl
behind-is zero (x ∷ xs) h = refl
behind-is (suc n) [] h = absurd (omega arith)
behind-is (suc n) (x ∷ xs) h = ap (with_first x) (behind-is n xs (omega arith))

-- THE FIRST CODE and those after it
pub record Next (x : ℕ) (xs : List ℕ) : Type 0 where
  pub short : following x < longest_code
  pub behind : BytesBehind (following x) xs
  pub codes : codes_from (x ∷ xs) ≡ (leading_byte x ∷ take (following x) xs) ∷ codes_from (drop (following x) xs)

pub next-code : (x : ℕ) (xs : List ℕ) → are_codes (x ∷ xs) ≡ true → Next x xs
unfolding are_whole codes_behind
next-code x xs e =
    let h = both (ltb (following x) longest_code) (are_whole (following x) xs) e in
    let w = whole-behind (following x) xs h.1 in
    record {
      short = ltb-true (following x) longest_code h.0;
      behind = w;
      codes = ap (with_first (leading_byte x)) (behind-is (following x) xs w.there);
    }

-- the same told by places: a code begins at one, and its last byte stands before another
module _ (table : List ℕ) (at end : ℕ) (before-end : at < end) (inside : end ≤ length table) where
  abbrev head : ℕ
  head = get_or table at 0

  abbrev next : ℕ
  next = suc at + following head

  pub within_first : within at end table ≡ head ∷ within (suc at) end table
  within_first =
      let z : end - at ≡ suc (end - suc at) = omega arith in
      rw (z, drop-cons table at 0 (omega arith))

  rest-is : drop (following head) (within (suc at) end table) ≡ within next end table
  rest-is =
      let z : end - suc at - following head ≡ end - next = omega arith in
      drop-take (following head) (end - suc at) (drop (suc at) table) ∙ rw (drop-drop, z)

  -- THE CODE AT A PLACE
  pub record CodeAt : Type 0 where
    pub short : following head < longest_code
    pub ends : next ≤ end
    pub bytes : every is_byte (within (suc at) next table) ≡ true
    pub rest : are_codes (within next end table) ≡ true
    pub codes : codes_from (within at end table) ≡ (leading_byte head ∷ within (suc at) next table) ∷ codes_from (within next end table)

  first-is : following head ≤ end - suc at → take (following head) (within (suc at) end table) ≡ within (suc at) next table
  first-is h =
      let z : next - suc at ≡ following head = omega arith in
      rw (z, take-take (following head) (end - suc at) (drop (suc at) table) h)

  pub code-at : are_codes (within at end table) ≡ true → CodeAt
  code-at e =
      let n = next-code head (within (suc at) end table) (rw within_first at e) in
      let l : following head ≤ end - suc at = omega (arith, n.behind.there, length-take (end - suc at) (drop (suc at) table)) in
      let f = first-is l in
      record {
        short = n.short;
        ends = omega (arith, l);
        bytes = subst (λ (t : List ℕ). every is_byte t ≡ true) f n.behind.bytes;
        rest = subst (λ (t : List ℕ). are_codes t ≡ true) rest-is n.behind.rest;
        codes = ap codes_from within_first ∙ (n.codes ∙ rw (f, rest-is));
      }
