-- Laws of a number's digits.
use mathlib.Core.Path.{◌≡◌, refl, ◌∙◌}
use Prim.Native.Nat.{ℕ, zero, suc, ◌+◌, ◌≤◌, ◌<◌, ◌-◌, ◌/◌, ◌%◌}
use native.Mathlib.Nat.{suc-add}
use native.Mathlib.Omega.{arith}
use mathlib.Core.Bool.{Bool, true, false}
use mathlib.Core.List.{[], ◌∷◌}
use lib.ListN.{length, drop, set}
use lib.Seq.{drop-cons, lt-length-set, get_or-set_same, drop-set-lt}
use lib.Dec.{ltb}
use borrow.Author.Tests.{lt-ltb, le-ltb}
use Rattle.text.specs.Bytes.{Text, pick, byte}
use Rattle.text.specs.Puts.{Puts}
use Rattle.text.specs.Decimal.{digits_before, decimal}

-- a byte written before what stands there
written : (d : Text) (j x : ℕ) → j < length d → drop j (set d j x) ≡ x ∷ drop (suc j) d
written d j x h =
    drop-cons (set d j x) j 0 (lt-length-set d j x h) ∙ rw (get_or-set_same d j x 0, drop-set-lt (suc j) d j x (omega arith))

-- the byte of a digit is written before place i: it is the last, or there are more
module _ (d : Text) (n : ℕ) where
  pub digits-done : (i : ℕ) → 0 < i → i ≤ length d → n < 10
      → drop (i - 1) (set d (i - 1) (byte "0" + n % 10)) ≡ digits_before i n (drop i d)
  unfolding digits_before
  digits-done zero z h l = absurd (omega arith)
  digits-done (suc j) z h l =
      let e : suc j - 1 ≡ j = omega arith in
      rw (e, lt-ltb n 10 l) (written d j (byte "0" + n % 10) (omega arith))

  pub digits-on : (i : ℕ) → 0 < i → i ≤ length d → 10 ≤ n
      → digits_before (i - 1) (n / 10) (drop (i - 1) (set d (i - 1) (byte "0" + n % 10))) ≡ digits_before i n (drop i d)
  unfolding digits_before
  digits-on zero z h l = absurd (omega arith)
  digits-on (suc j) z h l =
      let e : suc j - 1 ≡ j = omega arith in
      rw (e, le-ltb n 10 l, written d j (byte "0" + n % 10) (omega arith))

  -- no step is left
  pub digits-none : (i : ℕ) → i ≤ 0 → d ≡ digits_before i n (drop i d)
  unfolding digits_before
  digits-none zero h = refl
  digits-none (suc j) h = absurd (omega arith)

length-step : (b : Bool) (k : ℕ) (s t : Text) → length s ≤ suc k → length t ≤ suc k → length (pick b s t) ≤ suc k
length-step true k s t h l = h
length-step false k s t h l = l

-- no more digits than there are steps
pub digits-length : (k n : ℕ) (t : Text) → length (digits_before k n t) ≤ k + length t
unfolding digits_before
digits-length zero n t = omega arith
digits-length (suc k) n t =
    rw (suc-add k (length t))
    (length-step (ltb n 10) (k + length t) ((byte "0" + n % 10) ∷ t) (digits_before k (n / 10) ((byte "0" + n % 10) ∷ t))
    (omega arith) (omega (arith, digits-length k (n / 10) ((byte "0" + n % 10) ∷ t))))

pub decimal-length : (n : ℕ) → length (decimal n) ≤ 20
decimal-length n = digits-length 20 n []

-- a number that is put ends within 20 bytes
pub decimal-ends : (n : ℕ) {before : Text} {at : ℕ} {after : Text} {r : ℕ} → Puts before at (decimal n) after r → r ≤ at + 20
decimal-ends n p = omega (arith, decimal-length n, p.ends)
