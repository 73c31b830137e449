-- What is read of a number from where a reader stands.
use mathlib.Core.Path.{◌≡◌, refl, ap, ◌∙◌}
use Rattle.std.proofs.Common.{Some, None}
use Prim.Native.Nat.{ℕ, ◌+◌, ◌*◌, ◌-◌, ◌≤◌, ◌<◌}
use native.Mathlib.Numerals.{add-one}
use native.Mathlib.Omega.{arith, min_cases}
use mathlib.Core.Bool.{Bool, true, false, ◌||◌}
use mathlib.Core.List.{[], ◌∷◌}
use lib.ListN.{length, get_or, drop, drop_of_length-le}
use lib.Seq.{drop-cons}
use lib.Dec.{leb}
use borrow.Author.Tests.{leb-true}
use Rattle.text.specs.Bytes.{Text, pick, byte, digit, empty, every}
use Rattle.text.proofs.Tests.{both, empty-none, empty-some}
use Rattle.asked.specs.Asked.{most, fitting, value_from, asked}

pub digit_low : (b : ℕ) → digit b ≡ true → byte "0" ≤ b
digit_low b e = leb-true (byte "0") b (both (leb (byte "0") b) (leb b (byte "9")) e).0

-- more digits make no smaller number
value_up : (t : Text) (n : ℕ) → n ≤ value_from n t
unfolding value_from
value_up [] n = omega arith
value_up (b ∷ t) n = omega (arith, value_up t (n * 10 + (b - byte "0")))

-- it may be made to fit before the digits that follow
fitting-on : (t : Text) (n : ℕ) → fitting (value_from (fitting n) t) ≡ fitting (value_from n t)
fitting-on t n =
    min_cases most n (fitting (value_from (fitting n) t) ≡ fitting (value_from n t))
    (λ l e. rw e (omega (arith, value_up t most, value_up t n)))
    (λ l e. rw e)

-- the number so far, and what stands from i on, give the answer
pub record Read (t : Text) (n i : ℕ) : Type 0 where
  pub within : i ≤ length t
  pub fits : n ≤ most
  pub digits : every digit (drop i t) ≡ every digit t
  pub value : fitting (value_from n (drop i t)) ≡ fitting (value_from 0 t)

pub read_first : (t : Text) → Read t 0 0
read_first t = record { within = omega arith; fits = omega arith; digits = refl; value = refl }

pick-bad : {A : Type 0} (b : Bool) (x y : A) → pick (b || true) x y ≡ x
pick-bad true x y = refl
pick-bad false x y = refl

module _ (t : Text) (n i : ℕ) (r : Read t n i) where
  pub read-on : i < length t → digit (get_or t i 0) ≡ true → Read t (fitting (n * 10 + (get_or t i 0 - byte "0"))) (i + 1)
  unfolding every value_from
  read-on h e =
      let x = get_or t i 0 in
      let d : drop i t ≡ x ∷ drop (i + 1) t = rw (add-one i) (drop-cons t i 0 h) in
      record {
        within = omega arith;
        fits = omega arith;
        digits = rw (d, e) at r.digits;
        value = fitting-on (drop (i + 1) t) (n * 10 + (x - byte "0")) ∙ rw d at r.value;
      }

  pub read-bad : i < length t → digit (get_or t i 0) ≡ false → asked t ≡ None
  unfolding every asked
  read-bad h e =
      let d : drop i t ≡ get_or t i 0 ∷ drop (i + 1) t = rw (add-one i) (drop-cons t i 0 h) in
      rw (← r.digits, d, e) (pick-bad (empty t) None (Some (fitting (value_from 0 t))))

  pub read_all : (length t ≡ 0 → ⊥) → length t ≤ i → asked t ≡ Some n
  unfolding every value_from asked
  read_all z h =
      rw (← r.digits, ← r.value, drop_of_length-le t h, empty-some t z) (ap Some (omega arith))

pub read-empty : (t : Text) → length t ≡ 0 → asked t ≡ None
unfolding asked
read-empty t e = rw (empty-none t e)
