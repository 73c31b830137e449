-- Which of the lists has a number, and where the lists stand in a table.
use mathlib.Core.Path.{◌≡◌, refl, sym, ap, ◌∙◌}
use mathlib.Core.Logic.{◌⊎◌, inl, inr}
use Prim.Native.Nat.{ℕ, zero, suc, ◌+◌, ◌-◌, ◌≤◌, ◌<◌}
use native.Mathlib.Numerals.{add-one}
use native.Mathlib.Omega.{arith}
use mathlib.Core.Bool.{true}
use mathlib.Core.List.{List, []}
use lib.ListN.{length, get_or, drop, length-take, get_or-eq_default}
use lib.Dec.{leb}
use borrow.Author.Tests.{ltb-true, leb-true}
use Rattle.text.specs.Bytes.{Text, is_one, within}
use Rattle.text.proofs.Tests.{both}
use Rattle.profile.specs.Numbers.{code_lists, is_in_list, begin}
use Rattle.codes.specs.Inner.{AreListed}
use Rattle.text.specs.declared.span.Span.{Span}
use Rattle.profile.specs.Codes.{codes_behind, codes_from, are_whole, are_codes, list_count, list_at, lists_from, is_whole_list, are_whole_lists, AreLists, lists_begin, lists_in, HasLists}

-- THE LISTS BY THEIR NUMBERS
lists_at : (lists : List ℕ) (n k i : ℕ) → i < k → get_or (lists_from n k lists) i [] ≡ codes_from (list_at lists (n + i))
unfolding lists_from
lists_at lists n zero i h = absurd (omega arith)
lists_at lists n (suc k) zero h =
    let z : n + 0 ≡ n = omega arith in
    rw z
lists_at lists n (suc k) (suc i) h =
    let z : n + suc i ≡ suc n + i = omega arith in
    rw z (lists_at lists (suc n) k i (omega arith))

whole-at : (lists : List ℕ) (n k i : ℕ) → i < k → are_whole_lists n k lists ≡ true → is_whole_list lists (n + i) ≡ true
unfolding are_whole_lists
whole-at lists n zero i h e = absurd (omega arith)
whole-at lists n (suc k) zero h e =
    let z : n + 0 ≡ n = omega arith in
    rw z (both (is_whole_list lists n) (are_whole_lists (suc n) k lists) e).0
whole-at lists n (suc k) (suc i) h e =
    let z : n + suc i ≡ suc n + i = omega arith in
    rw z (whole-at lists (suc n) k i (omega arith) (both (is_whole_list lists n) (are_whole_lists (suc n) k lists) e).1)

lists_length : (n k : ℕ) (lists : List ℕ) → length (lists_from n k lists) ≡ k
unfolding lists_from
lists_length n zero lists = refl
lists_length n (suc k) lists = ap suc (lists_length (suc n) k lists)

module _ (lists : List ℕ) (has : AreLists lists) where
  pub index-inside : list_count lists + 1 < length lists
  index-inside = omega (arith, ltb-true (suc (list_count lists)) (length lists) has.inside)

  count-is : length code_lists ≡ list_count lists
  count-is = ap length (sym has.are) ∙ lists_length 1 (list_count lists) lists

  -- a list that there is, and none
  pub codes-listed : (n : ℕ) → 1 ≤ n → n ≤ list_count lists → AreListed lists n (record { start = get_or lists n 0; end = get_or lists (n + 1) 0 })
  codes-listed zero l h = absurd (omega arith)
  codes-listed (suc i) l h =
      let z : 1 + i ≡ suc i = omega arith in
      let w = rw z at (whole-at lists 1 (list_count lists) i (omega arith) has.whole) in
      let b = both (leb (get_or lists (suc (suc i)) 0) (length lists)) (are_codes (list_at lists (suc i))) w in
      rw (add-one (suc i))
      record {
        inside = leb-true (get_or lists (suc (suc i)) 0) (length lists) b.0;
        whole = b.1;
        codes = λ reason. sym (rw z at (lists_at lists 1 (list_count lists) i (omega arith))) ∙ ap (λ (l : List (List Text)). get_or l i []) has.are;
      }

  pub no_codes : (n : ℕ) → (n ≡ 0) ⊎ (list_count lists < n) → AreListed lists n (record { start = 0; end = 0 })
  unfolding are_whole codes_behind
  no_codes n (inl e) = record { inside = omega arith; whole = refl; codes = λ reason. rw e }
  no_codes zero (inr h) = absurd (omega arith)
  no_codes (suc i) (inr h) =
      let l : length code_lists ≤ i = omega (arith, count-is) in
      record { inside = omega arith; whole = refl; codes = λ reason. rw (get_or-eq_default code_lists [] {n = i} l) }

-- a text that is one of a list's codes
pub in_list : (lists : List ℕ) (n : ℕ) (r : Span) (s : Text) → AreListed lists n r → (n ≡ 0 → ⊥) → is_one s (codes_from (within r.start r.end lists)) ≡ is_in_list n s
in_list lists zero r s a h = absurd (h refl)
in_list lists (suc i) r s a h = rw (a.codes 0)

-- WHERE THE LISTS STAND in a table
pub lists-inside : (table : List ℕ) → HasLists table → (lists_begin < begin table 1) × (begin table 1 ≤ length table)
lists-inside table has =
    let i = leb-true (begin table 1) (length table) has.inside in
    let c = index-inside (lists_in table) has.lists in
    (omega (arith, c, length-take (begin table 1 - lists_begin) (drop lists_begin table)), i)
