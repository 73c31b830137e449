-- Laws of the digits and first bytes of the simple types.
use Prim.Native.Nat.{ℕ, suc, ◌-◌, ◌%◌, ◌≤◌}
use mathlib.Core.Path.{◌≡◌, refl, ap, ◌∙◌}
use mathlib.Core.Bool.{Bool, true, false, ◌&&◌}
use mathlib.Core.List.{List, [], ◌∷◌}
use native.Mathlib.Omega.{arith}
use Rattle.std.specs.List.{take_while}
use Rattle.std.proofs.lemmas.List.Sums.{take_while-cons}
use borrow.Author.Tests.{lt-ltb, leb-true}
use lib.ListN.{length, take, drop}
use lib.Dec.{eqb, leb, ltb, eqb-zero-suc, eqb-suc-suc}
use Rattle.text.specs.Bytes.{Text, pick, digit, empty, every}
use Rattle.types.specs.Types.{digits, rest, begins, two, twos}
use Rattle.text.specs.Ranges.{Range, is_within}
use Rattle.text.proofs.Tests.{both, and-false}
use Rattle.text.proofs.Lists.{part-rest}

-- the rest is what follows the digits
drop-step : (b : ℕ) (t d r : Text) (c : Bool) → drop (length d) t ≡ r → drop (length (pick c (b ∷ d) [])) (b ∷ t) ≡ pick c r (b ∷ t)
drop-step b t d r true h = h
drop-step b t d r false h = refl

pub digits-drop : (t : Text) → drop (length (digits t)) t ≡ rest t
unfolding digits rest
digits-drop [] = refl
digits-drop (b ∷ t) = drop-step b t (digits t) (rest t) (digit b) (digits-drop t)

-- the digits are the bytes that are taken while they are digits
taken-step : (b : ℕ) (t d : Text) (c : Bool) → digit b ≡ c → d ≡ take_while digit t → pick c (b ∷ d) [] ≡ take_while digit (b ∷ t)
taken-step b t d true e h = rw (take_while-cons, e, h) refl
taken-step b t d false e h = rw (take_while-cons, e) refl

pub digits_taken : (t : Text) → digits t ≡ take_while digit t
unfolding digits
digits_taken [] = refl
digits_taken (b ∷ t) = taken-step b t (digits t) (digit b) refl (digits_taken t)

most-step : (b : ℕ) (t d : Text) (c : Bool) → length d ≤ length t → length (pick c (b ∷ d) []) ≤ length (b ∷ t)
most-step b t d true h = omega arith
most-step b t d false h = omega arith

pub digits_most : (t : Text) → length (digits t) ≤ length t
unfolding digits
digits_most [] = omega arith
digits_most (b ∷ t) = most-step b t (digits t) (digit b) (digits_most t)

-- as many digits as bytes: each byte is a digit, and there is no rest
all-step : (b : ℕ) (t d : Text) (c e : Bool) → eqb (length d) (length t) ≡ e → eqb (length (pick c (b ∷ d) [])) (suc (length t)) ≡ c && e
all-step b t d true e h = eqb-suc-suc (length d) (length t) ∙ h
all-step b t d false e h = eqb-zero-suc (length t)

pub digits-all : (t : Text) → eqb (length (digits t)) (length t) ≡ every digit t
unfolding digits every
digits-all [] = refl
digits-all (b ∷ t) = all-step b t (digits t) (digit b) (every digit t) (digits-all t)

rest-step : (b : ℕ) (t d r : Text) (c : Bool) → eqb (length d) (length t) ≡ empty r → eqb (length (pick c (b ∷ d) [])) (suc (length t)) ≡ empty (pick c r (b ∷ t))
rest-step b t d r true h = eqb-suc-suc (length d) (length t) ∙ h
rest-step b t d r false h = eqb-zero-suc (length t)

pub digits-rest : (t : Text) → eqb (length (digits t)) (length t) ≡ empty (rest t)
unfolding digits rest
digits-rest [] = refl
digits-rest (b ∷ t) = rest-step b t (digits t) (rest t) (digit b) (digits-rest t)

-- some digits: the text begins with one
some-step : (b : ℕ) (d : Text) (c : Bool) → ltb 0 (length (pick c (b ∷ d) [])) ≡ c
some-step b d true = lt-ltb 0 (length (b ∷ d)) (omega arith)
some-step b d false = refl

pub digits-some : (t : Text) → ltb 0 (length (digits t)) ≡ begins digit t
unfolding digits
digits-some [] = refl
digits-some (b ∷ t) = some-step b (digits t) (digit b)

-- the part of a text after the digits, as code takes it
pub part-after-digits : (t : Text) (n : ℕ) → n ≡ length (digits t) → take (length t - n) (drop n t) ≡ rest t
part-after-digits t n e = part-rest n t ∙ ap (λ k. drop k t) e ∙ digits-drop t

-- where a digit lies
pub digit_range : (b : ℕ) → digit b ≡ true → (48 ≤ b) × (b ≤ 57)
digit_range b e = let h = both (leb 48 b) (leb b 57) e in (leb-true 48 b h.0, leb-true b 57 h.1)

-- digits of an odd number
pub twos_odd : (rs : List Range) (t : Text) → length t % 2 ≡ 1 → twos rs t ≡ false
unfolding twos
twos_odd [] [] e = absurd (omega (arith, e))
twos_odd [] (a ∷ t) e = refl
twos_odd (r ∷ rs) [] e = absurd (omega (arith, e))
twos_odd (r ∷ rs) (a ∷ []) e = refl
twos_odd (r ∷ rs) (a ∷ b ∷ t) e = rw (twos_odd rs t (omega (arith, e))) (and-false (is_within r (two a b)))
