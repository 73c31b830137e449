-- The table's rule, carried from the one test of all rows to a stretch of them.
use mathlib.Core.Path.{◌≡◌, refl, subst}
use Prim.Native.Nat.{ℕ, zero, suc, ◌+◌, ◌*◌, ◌-◌, ◌/◌, ◌≤◌, ◌<◌}
use native.Mathlib.Numerals.{add-one}
use native.Mathlib.Omega.{arith}
use mathlib.Core.Bool.{Bool, true, not, ◌&&◌, ◌||◌}
use mathlib.Core.List.{List, [], ◌∷◌, ◌++◌, map}
use lib.ListN.{length, drop}
use lib.Dec.{eqb, leb, ltb}
use borrow.Author.Tests.{eqb-true, leb-true}
use Rattle.text.specs.Bytes.{every}
use Rattle.text.proofs.Tests.{both}
use Rattle.text.proofs.Lists.{and_both}
use Rattle.profile.specs.Numbers.{rows_from, rows_within, begin, under, row_size, no_type}
use Rattle.codes.proofs.ListNumbers.{lists-inside}
use Rattle.profile.specs.Order.{are_of, rank_of, rising, rises, is_named, same_field, alone, behind, is_whole, Ordered, Sound, guides}
use Rattle.codes.specs.Inner.{Under}
use Rattle.codes.proofs.RowSteps.{rows_cut, rows_sooner}

pub every-left : {A : Type 0} (f : A → Bool) (l r : List A) → every f (l ++ r) ≡ true → every f l ≡ true
unfolding every
every-left f [] r e = refl
every-left f (x ∷ l) r e =
    let h = both (f x) (every f (l ++ r)) e in
    and_both (f x) (every f l) h.0 (every-left f l r h.1)

pub every_right : {A : Type 0} (f : A → Bool) (l r : List A) → every f (l ++ r) ≡ true → every f r ≡ true
unfolding every
every_right f [] r e = e
every_right f (x ∷ l) r e = every_right f l r (both (f x) (every f (l ++ r)) e).1

pub rising-rest : (x : ℕ) (l : List ℕ) → rising (x ∷ l) ≡ true → rising l ≡ true
unfolding rising
rising-rest x [] e = refl
rising-rest x (y ∷ l) e = (both (ltb x y) (rising (y ∷ l)) e).1

rises-left : (l r : List (List ℕ)) → rises (l ++ r) ≡ true → rises l ≡ true
unfolding rising
rises-left [] r e = refl
rises-left (x ∷ []) r e = refl
rises-left (x ∷ y ∷ l) r e =
    let h = both (ltb (rank_of x) (rank_of y)) (rises (y ∷ (l ++ r))) e in
    and_both (ltb (rank_of x) (rank_of y)) (rises (y ∷ l)) h.0 (rises-left (y ∷ l) r h.1)

rises_right : (l r : List (List ℕ)) → rises (l ++ r) ≡ true → rises r ≡ true
rises_right [] r e = e
rises_right (x ∷ l) r e = rises_right l r (rising-rest (rank_of x) (map rank_of (l ++ r)) e)

-- whether two neighbours may stand side by side
abbrev pub apart : List ℕ → List ℕ → Bool
apart x y = not (same_field x y && (is_named x || is_named y))

alone_rest : (x : List ℕ) (l : List (List ℕ)) → alone (x ∷ l) ≡ true → alone l ≡ true
unfolding alone
alone_rest x [] e = refl
alone_rest x (y ∷ l) e = (both (apart x y) (alone (y ∷ l)) e).1

alone-left : (l r : List (List ℕ)) → alone (l ++ r) ≡ true → alone l ≡ true
unfolding alone
alone-left [] r e = refl
alone-left (x ∷ []) r e = refl
alone-left (x ∷ y ∷ l) r e =
    let h = both (apart x y) (alone (y ∷ (l ++ r))) e in
    and_both (apart x y) (alone (y ∷ l)) h.0 (alone-left (y ∷ l) r h.1)

alone_right : (l r : List (List ℕ)) → alone (l ++ r) ≡ true → alone r ≡ true
alone_right [] r e = e
alone_right (x ∷ l) r e = alone_right l r (alone_rest x (l ++ r) e)

module _ (l r : List (List ℕ)) (o : Ordered (l ++ r)) where
  pub ordered-left : Ordered l
  ordered-left =
      record {
        order = rises-left l r o.order;
        proper = every-left _ l r o.proper;
        lone = alone-left l r o.lone;
      }

  pub ordered_right : Ordered r
  ordered_right =
      record {
        order = rises_right l r o.order;
        proper = every_right _ l r o.proper;
        lone = alone_right l r o.lone;
      }

-- a number from one on, and some more
abbrev up_from : ℕ → ℕ → List ℕ
up_from a zero = []
up_from a (suc n) = a ∷ up_from (suc a) n

every_up : (f : ℕ → Bool) (n a i : ℕ) → i < n → every f (up_from a n) ≡ true → f (a + i) ≡ true
unfolding every
every_up f zero a i h e = absurd (omega arith)
every_up f (suc n) a zero h e =
    let z : a + 0 ≡ a = omega arith in
    rw z (both (f a) (every f (up_from (suc a) n)) e).0
every_up f (suc n) a (suc i) h e =
    let z : a + suc i ≡ suc a + i = omega arith in
    rw z (every_up f n (suc a) i (omega arith) (both (f a) (every f (up_from (suc a) n)) e).1)

-- what the rule says of the rows under a number
pub record Whole (table : List ℕ) (k : ℕ) : Type 0 where
  pub count : ℕ
  pub starts : begin table k ≡ behind table + count * row_size
  pub some : begin table k + row_size ≤ begin table (suc k)
  pub inside : begin table (suc k) ≤ length table
  pub numbered : are_of k (under k table) ≡ true
  pub guided : guides (begin table k) (under k table) ≡ true

whole : (table : List ℕ) (k : ℕ) → is_whole k table ≡ true → Whole table k
whole table k e =
    let a = eqb (begin table k) (behind table + (begin table k - behind table) / row_size * row_size) in
    let b = leb (begin table k + row_size) (begin table (suc k)) in
    let c = leb (begin table (suc k)) (length table) in
    let d = are_of k (under k table) in
    let g = both (a && b && c && d) (guides (begin table k) (under k table)) e in
    let h = both (a && b && c) d g.0 in
    let i = both (a && b) c h.0 in
    let j = both a b i.0 in
    record {
      count = (begin table k - behind table) / row_size;
      starts = eqb-true (begin table k) (behind table + (begin table k - behind table) / row_size * row_size) j.0;
      some = leb-true (begin table k + row_size) (begin table (suc k)) j.1;
      inside = leb-true (begin table (suc k)) (length table) i.1;
      numbered = h.1;
      guided = g.1;
    }

module _ (table : List ℕ) (s : Sound table) (k : ℕ) (low : 1 ≤ k) (high : k ≤ no_type) where
  pub under_whole : Whole table k
  under_whole =
      let e : 1 + (k - 1) ≡ k = omega arith in
      whole table k (rw e at (every_up (λ (j : ℕ). is_whole j table) no_type 1 (k - 1) (omega arith) s.index))

  pub under-ordered : Ordered (under k table)
  under-ordered =
      let w = under_whole in
      let b = begin table k in
      let e = begin table (suc k) in
      let n = (length table - b) / row_size - (e - b) / row_size in
      let later : Ordered (rows_within b (length table) table) =
      ordered_right (rows_within (behind table) b table) (rows_within b (length table) table)
      (subst Ordered (rows_cut table (behind table) (length table) b w.count w.starts (omega arith)) s.rows)
      in
      ordered-left (under k table) (rows_from n (drop ((e - b) / row_size * row_size) (drop b table)))
      (subst Ordered (rows_sooner table b e (length table) w.inside) later)

  pub under-inside : k + 1 < length table
  under-inside = omega (arith, lists-inside table s.lists)

  pub under-rows : Under table k (record { start = begin table k; end = begin table (k + 1) })
  under-rows =
      let w = under_whole in
      rw (add-one k)
      record {
        some = w.some;
        inside = w.inside;
        rows = refl;
        ordered = under-ordered;
        numbered = w.numbered;
        guided = w.guided;
      }
