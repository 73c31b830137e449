-- Laws of digits and ranges read in one pass.
use Rattle.std.proofs.Common.{None}
use Prim.Native.Nat.{ℕ, zero, suc, ◌+◌, ◌-◌, ◌≤◌, ◌<◌}
use mathlib.Core.Path.{◌≡◌, refl, sym, ap, ◌∙◌}
use mathlib.Core.Bool.{Bool, true, false, ◌&&◌, ◌||◌}
use mathlib.Core.List.{List, [], ◌∷◌}
use native.Mathlib.Nat.{zero-add, suc-add}
use native.Mathlib.Numerals.{add-one}
use native.Mathlib.Omega.{arith}
use borrow.Author.Tests.{ne_eqb, lt-leb}
use lib.ListN.{length, get_or, take, drop, drop_of_length-le}
use lib.Seq.{drop-cons, drop-drop}
use lib.Dec.{eqb, leb, leb-zero, leb-suc-zero, leb-suc-suc, eqb-zero-suc, eqb-suc-suc}
use Rattle.text.specs.Bytes.{Text, pick, digit, every}
use Rattle.text.specs.Ranges.{Range, ◌to◌, is_within}
use Rattle.text.proofs.Tests.{not-true as no, both, and-false}
use Rattle.text.proofs.Lists.{part-rest}
use Rattle.types.specs.Types.{digits, rest, begins, two, twos, clock, calendar, is_zone, is_fraction, is_dtm, is_tm}
use Rattle.types.specs.Inner.{BehindTwo, ranges_of, twos_length}
use Rattle.types.proofs.TypeLaws.{digit_range}
use Rattle.types.proofs.DayLaws.{digits-fit}

-- the first two bytes decide; too few make no two
pub no_two_few : (r : Range) (t : Text) → length t < 2 → BehindTwo r t None
unfolding twos_length
no_two_few r [] h rs = refl
no_two_few r (a ∷ []) h rs = refl
no_two_few r (a ∷ b ∷ t) h rs = absurd (omega arith)

pub no_two : (r : Range) (t : Text) (x y w : Bool) → x ≡ digit (get_or t 0 0) → y ≡ digit (get_or t 1 0)
    → is_within r (two (get_or t 0 0) (get_or t 1 0)) ≡ w → x && y && w ≡ false → BehindTwo r t None
unfolding twos_length
no_two r [] x y w d e f g rs = refl
no_two r (a ∷ []) x y w d e f g rs = refl
no_two r (a ∷ b ∷ t) x y w d e f g rs = rw (← d, ← e, f, g) refl

behind_as : (r : Range) (a b : ℕ) (t : Text) → digit a && digit b && is_within r (two a b) ≡ true → (rs : List Range) → twos_length (r ∷ rs) (a ∷ b ∷ t) ≡ suc (suc (twos_length rs t))
unfolding twos_length
behind_as r a b t e rs = rw e refl

pub one_two : (r : Range) (t : Text) (x y : Bool) (u : Text) → 2 ≤ length t → x ≡ digit (get_or t 0 0) → y ≡ digit (get_or t 1 0)
    → x && y ≡ true → is_within r (two (get_or t 0 0) (get_or t 1 0)) ≡ true → u ≡ take (length t - 2) (drop 2 t)
    → (length t ≡ suc (suc (length u))) × ((rs : List Range) → twos_length (r ∷ rs) t ≡ suc (suc (twos_length rs u)))
one_two r [] x y u h d e g f k = absurd (omega arith)
one_two r (a ∷ []) x y u h d e g f k = absurd (omega arith)
one_two r (a ∷ b ∷ t) x y u h d e g f k = rw (k, part-rest) (refl, behind_as r a b t (rw (← d, ← e, g) f))

-- the ranges passed, and those to come
pub twos_next : (l : List (ℕ × ℕ)) (i : ℕ) (t : Text) (n : List Range → ℕ) → i < length l
    → ((rs : List Range) → twos_length ((get_or l i (0, 0)).0 to (get_or l i (0, 0)).1 ∷ rs) t ≡ n rs)
    → twos_length (ranges_of (drop i l)) t ≡ n (ranges_of (drop (i + 1) l))
unfolding ranges_of
twos_next l i t n h e = rw (drop-cons l i (0, 0) h, add-one i) (e (ranges_of (drop (suc i) l)))

pub twos_end : (l : List (ℕ × ℕ)) (i : ℕ) (t : Text) → length l ≤ i → twos_length (ranges_of (drop i l)) t ≡ 0
unfolding ranges_of twos_length
twos_end l i t h = rw (drop_of_length-le l h) refl

-- they are all bytes where every byte is a digit and all twos are within their ranges
all-step : (a b w x y : Bool) (n l : ℕ) → x && y ≡ eqb n l → a && (b && x) && (w && y) ≡ eqb (pick (a && b && w) (suc (suc n)) 0) (suc (suc l))
all-step false b w x y n l h = sym (eqb-zero-suc (suc l))
all-step true false w x y n l h = sym (eqb-zero-suc (suc l))
all-step true true false x y n l h = and-false x ∙ sym (eqb-zero-suc (suc l))
all-step true true true x y n l h = h ∙ sym (eqb-suc-suc (suc n) (suc l) ∙ eqb-suc-suc n l)

pub length-all : (rs : List Range) (t : Text) → every digit t && twos rs t ≡ eqb (twos_length rs t) (length t)
unfolding every twos twos_length
length-all [] [] = refl
length-all [] (a ∷ t) = and-false (every digit (a ∷ t)) ∙ sym (eqb-zero-suc (length t))
length-all (r ∷ rs) [] = refl
length-all (r ∷ rs) (a ∷ []) = and-false (every digit (a ∷ [])) ∙ sym (eqb-zero-suc 0)
length-all (r ∷ rs) (a ∷ b ∷ t) =
    all-step (digit a) (digit b) (is_within r (two a b)) (every digit t) (twos rs t) (twos_length rs t) (length t) (length-all rs t)

-- THE ONE PASS. What is tested after the digits, with their number, is false of a text that begins with a digit
abbrev NoDigit : (Text → ℕ → Bool) → Type 0
NoDigit E = (u : Text) (n : ℕ) → begins digit u ≡ true → E u n ≡ false

-- then it may be tested after the twos: a digit alone, out of its range or without one is false either way
no_range_step : (E : Text → ℕ → Bool) → NoDigit E → (b : ℕ) (t d r : Text) (c : Bool) → digit b ≡ c
    → twos [] (pick c (b ∷ d) []) && E (pick c r (b ∷ t)) (length (pick c (b ∷ d) [])) ≡ E (b ∷ t) 0
unfolding twos
no_range_step E h b t d r true e = sym (h (b ∷ t) 0 e)
no_range_step E h b t d r false e = refl

alone-step : (E : Text → ℕ → Bool) → NoDigit E → (r : Range) (rs : List Range) (a : ℕ) (c : Bool) → digit a ≡ c
    → twos (r ∷ rs) (pick c (a ∷ []) []) && E (pick c [] (a ∷ [])) (length (pick c (a ∷ []) [])) ≡ E (a ∷ []) 0
unfolding twos
alone-step E h r rs a true e = sym (h (a ∷ []) 0 e)
alone-step E h r rs a false e = refl

two-step : (E : Text → ℕ → Bool) → NoDigit E → (r : Range) (rs : List Range) (a b : ℕ) (t d s : Text) (n : ℕ) (x y w : Bool)
    → digit a ≡ x → is_within r (two a b) ≡ w → twos rs d && E s (suc (suc (length d))) ≡ E (drop n t) (suc (suc n))
    → twos (r ∷ rs) (pick x (a ∷ pick y (b ∷ d) []) []) && E (pick x (pick y s (b ∷ t)) (a ∷ b ∷ t)) (length (pick x (a ∷ pick y (b ∷ d) []) []))
    ≡ E (drop (pick (x && y && w) (suc (suc n)) 0) (a ∷ b ∷ t)) (pick (x && y && w) (suc (suc n)) 0)
unfolding twos
two-step E h r rs a b t d s n false y w e f ih = refl
two-step E h r rs a b t d s n true false w e f ih = sym (h (a ∷ b ∷ t) 0 e)
two-step E h r rs a b t d s n true true false e f ih = rw f (sym (h (a ∷ b ∷ t) 0 e))
two-step E h r rs a b t d s n true true true e f ih = rw f ih

one_pass : (E : Text → ℕ → Bool) → NoDigit E → (rs : List Range) (t : Text)
    → twos rs (digits t) && E (rest t) (length (digits t)) ≡ E (drop (twos_length rs t) t) (twos_length rs t)
unfolding digits rest twos twos_length
one_pass E h [] [] = refl
one_pass E h [] (b ∷ t) = no_range_step E h b t (digits t) (rest t) (digit b) refl
one_pass E h (r ∷ rs) [] = refl
one_pass E h (r ∷ rs) (a ∷ []) = alone-step E h r rs a (digit a) refl
one_pass E h (r ∷ rs) (a ∷ b ∷ t) =
    two-step E h r rs a b t (digits t) (rest t) (twos_length rs t) (digit a) (digit b) (is_within r (two a b)) refl refl
    (one_pass (λ u n. E u (suc (suc n))) (λ u n. h u (suc (suc n))) rs t)

-- neither a zone nor a fraction begins with a digit
no_zone : (u : Text) → begins digit u ≡ true → is_zone u ≡ false
no_zone [] e = no e
no_zone (b ∷ u) e =
    let h = digit_range b e in
    rw (ne_eqb b 43 (omega arith), ne_eqb b 45 (omega arith))

no_fraction : (u : Text) → begins digit u ≡ true → is_fraction u ≡ false
unfolding digits
no_fraction [] e = no e
no_fraction (b ∷ u) e =
    let h = digit_range b e in
    rw (ne_eqb b 46 (omega arith))

no_ending : (u : Text) (seconds : Bool) → begins digit u ≡ true → is_zone u || (seconds && is_fraction u) ≡ false
no_ending u seconds e = rw (no_zone u e, no_fraction u e) (and-false seconds)

-- TM: at least one two, and what may follow
last-first : (a b c : Bool) → a && b && c ≡ b && (a && c)
last-first true b c = refl
last-first false b c = sym (and-false b)

abbrev TimeEnds : Text → ℕ → Bool
TimeEnds u n = leb 2 n && (is_zone u || (eqb n 6 && is_fraction u))

time_no_digit : NoDigit TimeEnds
time_no_digit u n e = ap (leb 2 n &&◌) (no_ending u (eqb n 6) e) ∙ and-false (leb 2 n)

pub time_read : (t : Text) (n : ℕ) → n ≡ twos_length clock t → is_tm t ≡ leb 2 n && (is_zone (drop n t) || (eqb n 6 && is_fraction (drop n t)))
time_read t n e =
    last-first (leb 2 (length (digits t))) (twos clock (digits t)) (is_zone (rest t) || (eqb (length (digits t)) 6 && is_fraction (rest t)))
    ∙ one_pass TimeEnds time_no_digit clock t
    ∙ ap (λ k. TimeEnds (drop k t) k) (sym e)

-- at least so many digits: the first so many bytes are
first_step : (b k : ℕ) (d : Text) (c x : Bool) → x ≡ leb k (length d) → c && x ≡ leb (suc k) (length (pick c (b ∷ d) []))
first_step b k d true x h = h ∙ sym (leb-suc-suc k (length d))
first_step b k d false x h = sym (leb-suc-zero k)

digits-first : (k : ℕ) (t : Text) → k ≤ length t → every digit (take k t) ≡ leb k (length (digits t))
unfolding digits every
digits-first zero t h = sym (leb-zero (length (digits t)))
digits-first (suc k) [] h = absurd (omega arith)
digits-first (suc k) (b ∷ t) h = first_step b k (digits t) (digit b) (every digit (take k t)) (digits-first k t (omega arith))

-- then the digits go on after them
digits-behind : (F : Text → Text → ℕ → Bool) (k : ℕ) (t : Text) → k ≤ length t → every digit (take k t) ≡ true
    → F (drop k (digits t)) (rest t) (length (digits t)) ≡ F (digits (drop k t)) (rest (drop k t)) (k + length (digits (drop k t)))
unfolding digits rest every
digits-behind F zero t h e = rw zero-add
digits-behind F (suc k) [] h e = absurd (omega arith)
digits-behind F (suc k) (b ∷ t) h e =
    let w = both (digit b) (every digit (take k t)) e in
    rw (w.0, suc-add) (digits-behind (λ d r n. F d r (suc n)) k t (omega arith) w.1)

-- DTM: the year, the twos after it, and what may follow
abbrev DateEnds : Text → ℕ → Bool
DateEnds u n = is_zone u || (eqb (4 + n) 14 && is_fraction u)

module _ (t : Text) where
  pub year_short : length t < 4 → is_dtm t ≡ false
  year_short h = rw (lt-leb 4 (length (digits t)) (omega (arith, digits-fit t)))

  pub year_other : 4 ≤ length t → every digit (take 4 t) ≡ false → is_dtm t ≡ false
  year_other h e = rw (sym (digits-first 4 t h) ∙ e)

  pub date_read : (n : ℕ) → 4 ≤ length t → every digit (take 4 t) ≡ true → n ≡ 4 + twos_length calendar (drop 4 t)
      → is_dtm t ≡ is_zone (drop n t) || (eqb n 14 && is_fraction (drop n t))
  date_read n h e f =
      rw (sym (digits-first 4 t h) ∙ e)
      (digits-behind (λ d r k. twos calendar d && (is_zone r || (eqb k 14 && is_fraction r))) 4 t h e
      ∙ one_pass DateEnds (λ u k. no_ending u (eqb (4 + k) 14)) calendar (drop 4 t)
      ∙ rw (f, drop-drop))
