-- Rows told by where they begin and end: the first and the rest, and a stretch of them.
use mathlib.Core.Path.{◌≡◌, refl, ap, ◌∙◌}
use Prim.Native.Nat.{ℕ, zero, suc, ◌+◌, ◌*◌, ◌-◌, ◌/◌, ◌≤◌, ◌<◌}
use native.Mathlib.Nat.{div-eq_of_lt, div-eq-sub-div, div-mul-le_self, lt-div-mul-add, mul-add-div_right, mul-div_cancel}
use native.Mathlib.Numerals.{add-one}
use native.Mathlib.Omega.{arith}
use mathlib.Core.List.{List, [], ◌∷◌, ◌++◌}
use lib.ListN.{length, drop}
use lib.Seq.{drop-drop}
use Rattle.profile.specs.Numbers.{rows_from, rows_within, row_size}

eleven : (n : ℕ) → row_size ≤ n → n / row_size ≡ suc ((n - row_size) / row_size)
eleven n h = div-eq-sub-div {m = row_size} {n = n} (omega arith) h ∙ add-one ((n - row_size) / row_size)

-- fewer numbers are fewer rows
pub fewer : (m n : ℕ) → m ≤ n → m / row_size ≤ n / row_size
fewer m n h = omega (arith, div-mul-le_self m row_size, lt-div-mul-add {a = n} {b = row_size} (omega arith))

pub rows_none : (table : List ℕ) (at end : ℕ) → end - at < row_size → rows_within at end table ≡ []
unfolding rows_from
rows_none table at end h = ap (λ (k : ℕ). rows_from k (drop at table)) (div-eq_of_lt h)

pub rows_next : (table : List ℕ) (at end : ℕ) → row_size ≤ end - at → rows_within at end table ≡ drop at table ∷ rows_within (at + row_size) end table
unfolding rows_from
rows_next table at end h =
    let e : end - at - row_size ≡ end - (at + row_size) = omega arith in
    ap (λ (k : ℕ). rows_from k (drop at table)) (eleven (end - at) h ∙ ap (λ (k : ℕ). suc (k / row_size)) e)
    ∙ ap (λ (r : List ℕ). drop at table ∷ rows_from ((end - (at + row_size)) / row_size) r) (drop-drop row_size at table)

pub rows-length : (n : ℕ) (table : List ℕ) → length (rows_from n table) ≡ n
unfolding rows_from
rows-length zero table = refl
rows-length (suc n) table = ap suc (rows-length n (drop row_size table))

-- some rows, and those after them
pub rows_append : (m n : ℕ) (table : List ℕ) → rows_from (m + n) table ≡ rows_from m table ++ rows_from n (drop (m * row_size) table)
unfolding rows_from
rows_append zero n table =
    let e : 0 + n ≡ n = omega arith in
    rw e
rows_append (suc m) n table =
    let e : suc m + n ≡ suc (m + n) = omega arith in
    let f : row_size + m * row_size ≡ suc m * row_size = omega arith in
    rw e (ap (λ (l : List (List ℕ)). table ∷ l) (rows_append m n (drop row_size table) ∙ rw (drop-drop (m * row_size) row_size table, f)))

-- m rows of those from `at` up to `end`: they end at e, and the others begin there
module _ (table : List ℕ) (at end e m : ℕ) (is : e ≡ at + m * row_size) (inside : e ≤ end) where
  pub rows-front : rows_within at e table ≡ rows_from m (drop at table)
  rows-front =
      let a : e - at ≡ m * row_size = omega arith in
      ap (λ (k : ℕ). rows_from k (drop at table)) (ap (λ (k : ℕ). k / row_size) a ∙ mul-div_cancel m {n = row_size} (omega arith))

  pub front_length : length (rows_within at e table) ≡ m
  front_length = ap length rows-front ∙ rows-length m (drop at table)

  pub rows_cut : rows_within at end table ≡ rows_within at e table ++ rows_within e end table
  rows_cut =
      let a : end - at ≡ m * row_size + (end - e) = omega arith in
      let b : (end - at) / row_size ≡ m + (end - e) / row_size = ap (λ (k : ℕ). k / row_size) a ∙ mul-add-div_right {m = row_size} (omega arith) m (end - e) in
      ap (λ (k : ℕ). rows_from k (drop at table)) b
      ∙ rows_append m ((end - e) / row_size) (drop at table)
      ∙ rw (rows-front, is, drop-drop (m * row_size) at table)

-- the rows up to an earlier end are the first ones
pub rows_sooner : (table : List ℕ) (at end far : ℕ) → end ≤ far
    → rows_within at far table ≡ rows_within at end table ++ rows_from ((far - at) / row_size - (end - at) / row_size) (drop ((end - at) / row_size * row_size) (drop at table))
rows_sooner table at end far h =
    let n = (end - at) / row_size in
    let a : (far - at) / row_size ≡ n + ((far - at) / row_size - n) = omega (arith, fewer (end - at) (far - at) (omega arith)) in
    ap (λ (k : ℕ). rows_from k (drop at table)) a ∙ rows_append n ((far - at) / row_size - n) (drop at table)
