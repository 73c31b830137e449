-- Laws of the days: every month has those up to the 28th, and a text without a day names none that does not exist.
use Prim.Native.Nat.{ℕ, zero, suc, ◌%◌, ◌≤◌, ◌<◌}
use mathlib.Core.Path.{◌≡◌, refl, sym, ◌∙◌}
use mathlib.Core.Bool.{Bool, true, false, not, ◌&&◌, ◌||◌}
use mathlib.Core.List.{[], ◌∷◌}
use native.Mathlib.Omega.{arith}
use borrow.Author.Tests.{le-leb, lt-leb, leb-true, leb-false, ltb-true, eqb-true}
use lib.ListN.{length, get_or, drop, length-drop}
use lib.Dec.{eqb, leb, ltb}
use Rattle.text.specs.Bytes.{Text, pick, digit, some}
use Rattle.text.proofs.Tests.{not-true as no, both, picks}
use Rattle.types.specs.Types.{digits, rest, twos, calendar, is_zone, is_fraction, is_dtm, is_leap, days_in, year_of, month_of, day_of, has_day, day_exists}
use Rattle.types.proofs.TypeLaws.{digit_range, twos_odd}

-- a digit stands in the text at that place
abbrev pub DigitAt : Text → ℕ → Type 0
DigitAt t i = (i < length t) × ((48 ≤ get_or t i 0) × (get_or t i 0 ≤ 57))

digit-step : (b : ℕ) (t d : Text) (c : Bool) → digit b ≡ c → ((i : ℕ) → i < length d → DigitAt t i)
    → (i : ℕ) → i < length (pick c (b ∷ d) []) → DigitAt (b ∷ t) i
digit-step b t d true e ih zero h = (omega arith, digit_range b e)
digit-step b t d true e ih (suc i) h =
    let w = ih i (omega (arith, h)) in
    (omega (arith, w.0), w.1)
digit-step b t d false e ih i h = absurd (omega (arith, h))

-- so does each of the digits that it begins with
pub digit_at : (t : Text) (i : ℕ) → i < length (digits t) → DigitAt t i
unfolding digits
digit_at [] i h = absurd (omega (arith, h))
digit_at (b ∷ t) i h = digit-step b t (digits t) (digit b) refl (digit_at t) i h

-- the byte after the digits is none
next-step : (b : ℕ) (t d : Text) (c : Bool) → digit b ≡ c → (length d < length t → digit (get_or t (length d) 0) ≡ false)
    → length (pick c (b ∷ d) []) < length (b ∷ t) → digit (get_or (b ∷ t) (length (pick c (b ∷ d) [])) 0) ≡ false
next-step b t d true e ih h = ih (omega (arith, h))
next-step b t d false e ih h = e

pub digits-next : (t : Text) → length (digits t) < length t → digit (get_or t (length (digits t)) 0) ≡ false
unfolding digits
digits-next [] h = absurd (omega (arith, h))
digits-next (b ∷ t) h = next-step b t (digits t) (digit b) refl (digits-next t) h

-- there are no more of them than bytes
pub digits-fit : (t : Text) → length (digits t) ≤ length t
unfolding digits
digits-fit [] = omega arith
digits-fit (b ∷ t) = picks (λ d. length d ≤ suc (length t)) (digit b) {x = b ∷ digits t} {y = []} (omega (arith, digits-fit t)) (omega arith)

-- every month of every year has the days up to the 28th
pub month_long : (year month : ℕ) → 28 ≤ days_in year month
month_long year month =
    picks (28 ≤◌) (eqb month 2) (picks (28 ≤◌) (is_leap year) (omega arith) (omega arith)) (picks (28 ≤◌) (some (eqb month) (4 ∷ 6 ∷ 9 ∷ 11 ∷ [])) (omega arith) (omega arith))

module _ (t : Text) where
  -- a text without a day
  pub no_day : length (digits t) < 8 → day_exists t ≡ true
  no_day h = rw (lt-leb 8 (length (digits t)) h)

  -- a text with one
  pub some_day : 8 ≤ length (digits t) → day_exists t ≡ leb (day_of t) (days_in (year_of t) (month_of t))
  some_day h = rw (le-leb 8 (length (digits t)) h)

  -- a day up to the 28th
  or-true : (b : Bool) → b || true ≡ true
  or-true true = refl
  or-true false = refl

  pub early_day : day_of t ≤ 28 → day_exists t ≡ true
  early_day h = rw (le-leb (day_of t) (days_in (year_of t) (month_of t)) (omega (arith, h, month_long (year_of t) (month_of t)))) (or-true (not (has_day t)))

  -- A DTM's digits after the year come in twos: where a digit stands for the month and one for the day, it has a day
  in_twos : is_dtm t ≡ true → (4 ≤ length (digits t)) × (length (digits t) % 2 ≡ 1 → ⊥)
  in_twos e =
      let n = length (digits t) in
      let ends = is_zone (rest t) || (eqb n 14 && is_fraction (rest t)) in
      let w = both (leb 4 n && twos calendar (drop 4 (digits t))) ends e in
      let v = both (leb 4 n) (twos calendar (drop 4 (digits t))) w.0 in
      let four = leb-true 4 n v.0 in
      (four, λ z. no (sym (twos_odd calendar (drop 4 (digits t)) (rw (length-drop 4 (digits t)) (omega (arith, four, z)))) ∙ v.1))

  clash : (i : ℕ) → length (digits t) ≡ i → length (digits t) < length t → digit (get_or t i 0) ≡ true → ⊥
  clash i e h d = no (sym (digits-next t h) ∙ rw e d)

  short_of : is_dtm t ≡ true → 8 ≤ length t → digit (get_or t 4 0) ≡ true → digit (get_or t 6 0) ≡ true → (b : Bool) → leb 8 (length (digits t)) ≡ b → 8 ≤ length (digits t)
  short_of e long four six true f = leb-true 8 (length (digits t)) f
  short_of e long four six false f =
      let less = leb-false 8 (length (digits t)) f in
      let w = in_twos e in
      let not-four : length (digits t) ≡ 4 → ⊥ = λ z. clash 4 z (omega (arith, less, long)) four in
      let not-six : length (digits t) ≡ 6 → ⊥ = λ z. clash 6 z (omega (arith, less, long)) six in
      absurd (omega (arith, less, w.0, w.1, not-four, not-six))

  pub has_day_lem : is_dtm t ≡ true → 8 ≤ length t → digit (get_or t 4 0) && digit (get_or t 6 0) ≡ true → 8 ≤ length (digits t)
  has_day_lem e long d =
      let w = both (digit (get_or t 4 0)) (digit (get_or t 6 0)) d in
      short_of e long w.0 w.1 (leb 8 (length (digits t))) refl

  -- and where one of the two stands none, it has no day
  is_digit : (i : ℕ) → i < length (digits t) → digit (get_or t i 0) ≡ true
  is_digit i h =
      let w = (digit_at t i h).1 in
      rw (le-leb 48 (get_or t i 0) w.0, le-leb (get_or t i 0) 57 w.1)

  zone-there : (b : Bool) → leb 8 (length (digits t)) ≡ b → digit (get_or t 4 0) && digit (get_or t 6 0) ≡ false → day_exists t ≡ true
  zone-there true e d =
      let h = leb-true 8 (length (digits t)) e in
      no (sym d ∙ rw (is_digit 4 (omega (arith, h)), is_digit 6 (omega (arith, h))))
  zone-there false e d = no_day (leb-false 8 (length (digits t)) e)

  pub has_no_day : digit (get_or t 4 0) && digit (get_or t 6 0) ≡ false → day_exists t ≡ true
  has_no_day d = zone-there (leb 8 (length (digits t))) refl d

  -- too few bytes for one
  pub short_day : length t < 8 → day_exists t ≡ true
  short_day h = no_day (omega (arith, h, digits-fit t))

  -- the two bytes of the day, where it has one, are digits that write at most 28
  early_tens : DigitAt t 6 → DigitAt t 7 → (a b c : Bool) → ltb (get_or t 6 0) 50 ≡ a → eqb (get_or t 6 0) 50 ≡ b → leb (get_or t 7 0) 56 ≡ c → a || b && c ≡ true → day_of t ≤ 28
  early_tens u v true b c e f g h = omega (arith, u.1, v.1, ltb-true (get_or t 6 0) 50 e)
  early_tens u v false true true e f g h = omega (arith, u.1, v.1, eqb-true (get_or t 6 0) 50 f, leb-true (get_or t 7 0) 56 g)
  early_tens u v false true false e f g h = no h
  early_tens u v false false c e f g h = no h

  early_either : (b : Bool) → leb 8 (length (digits t)) ≡ b → ltb (get_or t 6 0) 50 || eqb (get_or t 6 0) 50 && leb (get_or t 7 0) 56 ≡ true → day_exists t ≡ true
  early_either false e h = no_day (leb-false 8 (length (digits t)) e)
  early_either true e h =
      let n = leb-true 8 (length (digits t)) e in
      early_day (early_tens (digit_at t 6 (omega (arith, n))) (digit_at t 7 (omega (arith, n))) (ltb (get_or t 6 0) 50) (eqb (get_or t 6 0) 50) (leb (get_or t 7 0) 56) refl refl refl h)

  pub early_bytes : ltb (get_or t 6 0) 50 || eqb (get_or t 6 0) 50 && leb (get_or t 7 0) 56 ≡ true → day_exists t ≡ true
  early_bytes h = early_either (leb 8 (length (digits t))) refl h
