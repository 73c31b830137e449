-- Codes that are put one after another.
use mathlib.Core.Path.{◌≡◌, refl, ap, subst, ◌∙◌}
use Prim.Native.Nat.{ℕ, ◌+◌, ◌/◌, ◌≤◌, ◌<◌}
use native.Mathlib.Omega.{arith}
use native.Mathlib.Numerals.{add-one}
use mathlib.Core.Bool.{true}
use mathlib.Core.List.{List, [], ◌∷◌, ◌++◌}
use lib.ListN.{length, get_or, take, drop}
use lib.Seq.{take-suc}
use lib.Dec.{ltb}
use borrow.Author.Tests.{ltb-true}
use Rattle.text.specs.Bytes.{Text, byte, every}
use Rattle.text.specs.declared.writer.Writer.{Writer}
use Rattle.text.specs.Writes.{Writes}
use Rattle.text.proofs.Puts.{puts_none}
use Rattle.text.proofs.Writes.{writes-both}
use Rattle.text.proofs.Lists.{every-at}
use Rattle.parts.specs.Split.{led}
use Rattle.profile.specs.Codes.{leading_byte, codes_from, are_codes, codes_behind}
use Rattle.codes.proofs.Spelled.{Next, next-code}

pub writes_none : (a : Writer) → a.at ≤ length a.out.now → Writes a [] a
writes_none a h = record { same = refl; puts = puts_none a.out.now a.at h }

-- one byte more of those after the first of a code
pub byte-on : {before mid after : Writer} (t : Text) (i : ℕ) → i < length t → Writes before (take i t) mid → Writes mid (get_or t i 0 ∷ []) after
    → Writes before (take (i + 1) t) after
byte-on t i h p q = rw (add-one i, take-suc t i 0) (writes-both p q)

pub is_byte : (t : Text) (i : ℕ) → i < length t → every (λ (x : ℕ). ltb x 256) t ≡ true → get_or t i 0 < 256
is_byte t i h e = ltb-true (get_or t i 0) 256 (every-at (λ (x : ℕ). ltb x 256) t i 0 h e)

-- codes, a blank before each; where those that are left are put, all that there was to put is there
abbrev pub codes_led : List ℕ → Text
codes_led codes = led (byte " ") (codes_from codes)

abbrev pub Leaves : Writer → Text → Writer → Text → Type 0
Leaves before all mid left = (after : Writer) → Writes mid left after → Writes before all after

-- THE FIRST CODE and those behind it
module _ (left : List ℕ) (x : ℕ) (xs : List ℕ) (is : left ≡ x ∷ xs) (are : are_codes left ≡ true) where
  next : Next x xs
  next = next-code x xs (subst (λ (l : List ℕ). are_codes l ≡ true) is are)

  pub code-there : x / 256 ≤ length xs
  code-there = next.behind.there

  module _ (others codes : List ℕ) (front : others ≡ take (x / 256) xs) (back : codes ≡ drop (x / 256) xs) where
    pub code-bytes : every (λ (b : ℕ). ltb b 256) others ≡ true
    code-bytes = rw front next.behind.bytes

    pub codes-rest : are_codes codes ≡ true
    codes-rest = rw back next.behind.rest

    pub codes-led : codes_led left ≡ (byte " " ∷ leading_byte x ∷ others) ++ codes_led codes
    unfolding led
    codes-led = rw is (ap (led (byte " ")) next.codes ∙ rw (front, back) refl)

pub codes-end : (left : List ℕ) → length left ≡ 0 → codes_led left ≡ []
unfolding led codes_behind
codes-end [] h = refl
codes-end (x ∷ xs) h = absurd (omega (arith, h))
