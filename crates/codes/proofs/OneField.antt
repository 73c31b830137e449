-- The rows of the first field among those from one place up to another: the rule that they are, its leaves, and the rows after them.
use mathlib.Core.Path.{◌≡◌, refl, sym, ap, subst, ◌∙◌}
use Prim.Native.Nat.{ℕ, suc, ◌+◌, ◌*◌, ◌-◌, ◌/◌, ◌≤◌, ◌<◌}
use native.Mathlib.Nat.{div-mul-le_self}
use native.Mathlib.Omega.{arith}
use mathlib.Core.Bool.{Bool, true, false}
use mathlib.Core.List.{List, [], ◌∷◌, ◌++◌, map, flat_map}
use lib.ListN.{length, get_or, drop}
use lib.Seq.{get_or-drop}
use lib.Dec.{eqb}
use borrow.Author.Tests.{eq-eqb, ne_eqb, eqb-true, eqb-false}
use Rattle.text.specs.Bytes.{Text, pick, every}
use Rattle.text.proofs.Tests.{both}
use Rattle.text.proofs.Lists.{and_both}
use Rattle.profile.specs.Table.{Listed, Row, Rule, rule, gather, gathered, leaves_in, leaves_of}
use Rattle.profile.specs.Numbers.{leaf_of, listed_of, row_of, rows_within, table_of, field_column, repetitions_column, row_size, segment_column, type_column, usage_column, first_field, first_namer, next_column, sure_column}
use Rattle.profile.specs.Order.{are_of, rises, is_proper, same_field, Ordered, of_field, guides}
use Rattle.codes.specs.Inner.{Ascends, SureUpTo, IsField, rule_at, leaves_named}
use Rattle.codes.proofs.RowSteps.{rows_next, rows-length, front_length, rows_cut}
use Rattle.codes.proofs.Stretch as stretch
use Rattle.codes.proofs.Stretch.{every-left, every_right}
use Rattle.codes.proofs.Guided.{guides-first, guides-behind, sure-rows, sure-leaves}
use Rattle.codes.proofs.Ascending.{Proper, proper_row, field-rises, rises-above, in_field, one_field, is_plain, plain_rows, plain-leaves, named-alone, named-leaf, ascending}

-- how many rows of a field come first
field_le_step : (b : Bool) (m n : ℕ) → m ≤ n → pick b (suc m) 0 ≤ suc n
field_le_step true m n h = omega arith
field_le_step false m n h = omega arith

field_le : (f : ℕ) (rs : List (List ℕ)) → of_field f rs ≤ length rs
unfolding of_field
field_le f [] = omega arith
field_le f (r ∷ rs) = field_le_step (in_field f r) (of_field f rs) (length rs) (field_le f rs)

-- a row further: it is of the field
module _ (table : List ℕ) (at end f : ℕ) where
  field-on : row_size ≤ end - at → get_or table (at + field_column) 0 ≡ f → of_field f (rows_within at end table) ≡ suc (of_field f (rows_within (at + row_size) end table))
  unfolding of_field
  field-on h e = rw (rows_next table at end h, eq-eqb (get_or (drop at table) field_column 0) f (get_or-drop at table field_column 0 ∙ e))

-- as many as there are in front of the others: each of those is of the field, and the next is not
counted : (b : Bool) (m n : ℕ) → pick b (suc m) 0 ≡ suc n → (b ≡ true) × (m ≡ n)
counted true m n e = (refl, omega arith)
counted false m n e = absurd (omega arith)

uncounted : (b : Bool) (m : ℕ) → pick b (suc m) 0 ≡ 0 → b ≡ false
uncounted true m e = absurd (omega arith)
uncounted false m e = refl

field-front : (f : ℕ) (l r : List (List ℕ)) → of_field f (l ++ r) ≡ length l → every (in_field f) l ≡ true
unfolding of_field every
field-front f [] r e = refl
field-front f (x ∷ l) r e =
    let h = counted (in_field f x) (of_field f (l ++ r)) (length l) e in
    and_both (in_field f x) (every (in_field f) l) h.0 (field-front f l r h.1)

field_next : (f : ℕ) (l : List (List ℕ)) (y : List ℕ) (r : List (List ℕ)) → of_field f (l ++ (y ∷ r)) ≡ length l → in_field f y ≡ false
unfolding of_field
field_next f [] y r e = uncounted (in_field f y) (of_field f r) e
field_next f (x ∷ l) y r e = field_next f l y r (counted (in_field f x) (of_field f (l ++ (y ∷ r))) (length l) e).1

-- a row in front of one of another field begins a rule of its own
apart-step : (q r : Row) (c : Bool) (ls ks : List Listed) (us vs : List Rule) → eqb q.field r.field ≡ false
    → gather q (pick c (rule r ls ∷ us) (rule r ks ∷ vs)) ≡ rule q (q.lists ∷ []) ∷ pick c (rule r ls ∷ us) (rule r ks ∷ vs)
apart-step q r true ls ks us vs e = rw e
apart-step q r false ls ks us vs e = rw e

gather-apart : (q r : Row) (us : List Rule) → eqb q.field r.field ≡ false → gather q (gather r us) ≡ rule q (q.lists ∷ []) ∷ gather r us
gather-apart q r [] e = rw e
gather-apart q r (u ∷ us) e = apart-step q r (eqb r.field u.field) (r.lists ∷ u.lists) (r.lists ∷ []) us (u ∷ us) e

eqb_swap : (a b : ℕ) → eqb a b ≡ false → eqb b a ≡ false
eqb_swap a b e = ne_eqb b a (λ h. eqb-false a b e (sym h))

gathered-first : (n : Text) (x : List ℕ) (l r : List (List ℕ)) → of_field (get_or x field_column 0) (l ++ r) ≡ length l
    → gathered (map (row_of n) (x ∷ (l ++ r))) ≡ rule (row_of n x) (map listed_of (x ∷ l)) ∷ gathered (map (row_of n) r)
unfolding of_field gathered
gathered-first n x [] [] e = refl
gathered-first n x [] (y ∷ r) e =
    gather-apart (row_of n x) (row_of n y) (gathered (map (row_of n) r))
    (eqb_swap (get_or y field_column 0) (get_or x field_column 0) (uncounted (in_field (get_or x field_column 0) y) (of_field (get_or x field_column 0) r) e))
gathered-first n x (y ∷ l) r e =
    let h = counted (in_field (get_or x field_column 0) y) (of_field (get_or x field_column 0) (l ++ r)) (length l) e in
    let s = eqb-true (get_or y field_column 0) (get_or x field_column 0) h.0 in
    ap (gather (row_of n x)) (gathered-first n y l r (rw s h.1))
    ∙ rw (eq-eqb (get_or x field_column 0) (get_or y field_column 0) (sym s))

pub rule-at : (table : List ℕ) (at e : ℕ) (n : Text) → rule (row_of n (drop at table)) (map listed_of (rows_within at e table)) ≡ rule_at table at e
rule-at table at e n = rw (get_or-drop at table field_column 0, get_or-drop at table usage_column 0, get_or-drop at table repetitions_column 0)

above : (a b : ℕ) → a ≤ b → eqb b a ≡ false → a < b
above a b h e = omega (arith, eqb-false b a e)

-- the same told by positions: e is where the rows of the first one's field end
module _ (table : List ℕ) (at end e : ℕ) (some : row_size ≤ end - at) (inside : end ≤ length table) (is : e ≡ at + of_field (get_or table (at + field_column) 0) (rows_within at end table) * row_size) where
  abbrev field : ℕ
  field = get_or table (at + field_column) 0

  pub field_bounds : (at + row_size ≤ e) × (e ≤ end)
  field_bounds = (
    omega (arith, is, field-on table at end field some refl),
    omega (arith, is, field_le field (rows_within at end table), rows-length ((end - at) / row_size) (drop at table), div-mul-le_self (end - at) row_size),
  )

  abbrev front : List (List ℕ)
  front = rows_within (at + row_size) e table

  abbrev rest : List (List ℕ)
  rest = rows_within e end table

  front-is : rows_within at e table ≡ drop at table ∷ front
  front-is = rows_next table at e (omega (arith, field_bounds.0))

  cut : rows_within at end table ≡ rows_within at e table ++ rest
  cut = rows_cut table at end e (of_field field (rows_within at end table)) is field_bounds.1

  rows_are : rows_within at end table ≡ drop at table ∷ (front ++ rest)
  rows_are = cut ∙ ap (λ (l : List (List ℕ)). l ++ rest) front-is

  front-counts : of_field field (drop at table ∷ (front ++ rest)) ≡ suc (length front)
  front-counts =
      ap (of_field field) (sym rows_are)
      ∙ sym (front_length table at end e (of_field field (rows_within at end table)) is field_bounds.1)
      ∙ ap length front-is

  stops : of_field (get_or (drop at table) field_column 0) (front ++ rest) ≡ length front
  unfolding of_field
  stops =
      rw (get_or-drop at table field_column 0)
      (counted (in_field field (drop at table)) (of_field field (front ++ rest)) (length front) front-counts).1

  pub rules_first : (n : Text)
      → gathered (map (row_of n) (rows_within at end table)) ≡ rule (row_of n (drop at table)) (map listed_of (rows_within at e table)) ∷ gathered (map (row_of n) (rows_within e end table))
  rules_first n =
      ap (λ (l : List (List ℕ)). gathered (map (row_of n) l)) rows_are
      ∙ gathered-first n (drop at table) front rest stops
      ∙ ap (λ (l : List (List ℕ)). rule (row_of n (drop at table)) (map listed_of l) ∷ gathered (map (row_of n) rest)) (sym front-is)

  pub rules_at : (n : Text) → gathered (map (row_of n) (rows_within at end table)) ≡ rule_at table at e ∷ gathered (map (row_of n) (rows_within e end table))
  rules_at n = rules_first n ∙ ap (λ (u : Rule). u ∷ gathered (map (row_of n) rest)) (rule-at table at e n)

  -- what the rule of the table says of them
  pub ordered-rest : Ordered (rows_within at end table) → Ordered (rows_within e end table)
  ordered-rest o = stretch.ordered_right (rows_within at e table) rest (subst Ordered cut o)

  pub ordered-front : Ordered (rows_within at end table) → Ordered (rows_within at e table)
  ordered-front o = stretch.ordered-left (rows_within at e table) rest (subst Ordered cut o)

  front-field : every (in_field (get_or (drop at table) field_column 0)) (drop at table ∷ front) ≡ true
  unfolding every
  front-field =
      and_both (in_field (get_or (drop at table) field_column 0) (drop at table)) (every (in_field (get_or (drop at table) field_column 0)) front)
      (eq-eqb (get_or (drop at table) field_column 0) (get_or (drop at table) field_column 0) refl) (field-front (get_or (drop at table) field_column 0) front rest stops)

  first-proper : Ordered (rows_within at end table) → Proper (drop at table)
  unfolding every
  first-proper o =
      let p = subst (λ (l : List (List ℕ)). every is_proper l ≡ true) rows_are o.proper in
      proper_row (drop at table) (both (is_proper (drop at table)) (every is_proper (front ++ rest)) p).0

  -- where the next field's rows begin, and what is sure to pass
  guides-at : guides at (rows_within at end table) ≡ true → guides at (drop at table ∷ (front ++ rest)) ≡ true
  guides-at g = subst (λ (l : List (List ℕ)). guides at l ≡ true) rows_are g

  pub guided-rest : guides at (rows_within at end table) ≡ true → guides e (rows_within e end table) ≡ true
  guided-rest g =
      let n : at + length (rows_within at e table) * row_size ≡ e = ap (λ (i : ℕ). at + i * row_size) (front_length table at end e (of_field field (rows_within at end table)) is field_bounds.1) ∙ sym is in
      subst (λ (i : ℕ). guides i rest ≡ true) n (guides-behind at (rows_within at e table) rest (subst (λ (l : List (List ℕ)). guides at l ≡ true) cut g))

  field-sure : guides at (rows_within at end table) ≡ true → 1 ≤ get_or (drop at table) sure_column 0 → SureUpTo (get_or (drop at table) sure_column 0) (map leaf_of (rows_within at e table))
  field-sure g some =
      let n : of_field (get_or (drop at table) field_column 0) (drop at table ∷ (front ++ rest)) ≡ length (drop at table ∷ front) = rw (get_or-drop at table field_column 0) front-counts in
      rw front-is
      (sure-leaves (drop at table) front (sure-rows (drop at table) (front ++ rest) (drop at table ∷ front) rest (guides-first at (drop at table) (front ++ rest) (guides-at g)).1 refl n some))

  module _ (k : ℕ) where
    of_all : are_of k (rows_within at end table) ≡ true → are_of k (drop at table ∷ (front ++ rest)) ≡ true
    of_all a = subst (λ (l : List (List ℕ)). are_of k l ≡ true) rows_are a

    pub of_rest : are_of k (rows_within at end table) ≡ true → are_of k (rows_within e end table) ≡ true
    of_rest a = every_right (λ (r : List ℕ). eqb (get_or r segment_column 0) k) (rows_within at e table) rest (subst (λ (l : List (List ℕ)). are_of k l ≡ true) cut a)

    segment-is : are_of k (rows_within at end table) ≡ true → get_or (drop at table) segment_column 0 ≡ k
    unfolding every
    segment-is a = eqb-true (get_or (drop at table) segment_column 0) k (both (eqb (get_or (drop at table) segment_column 0) k) (are_of k (front ++ rest)) (of_all a)).0

    front_of : are_of k (rows_within at end table) ≡ true → are_of k (drop at table ∷ front) ≡ true
    front_of a = every-left (λ (r : List ℕ). eqb (get_or r segment_column 0) k) (drop at table ∷ front) rest (of_all a)

    pub field_is : Ordered (rows_within at end table) → are_of k (rows_within at end table) ≡ true → guides at (rows_within at end table) ≡ true → IsField table k at e
    field_is o a g =
        record {
          some = field_bounds.0;
          inside = omega (arith, field_bounds.1);
          ordered = ordered-front o;
          one = rw front-is (one_field (drop at table) k (get_or (drop at table) field_column 0) (segment-is a) refl (drop at table ∷ front) (front_of a) front-field);
          segment = segment-is a;
          sure = field-sure g;
        }

    -- a field after has a higher number
    pub field-later : Ordered (rows_within at end table) → are_of k (rows_within at end table) ≡ true → row_size ≤ end - e → get_or table (at + field_column) 0 < get_or table (e + field_column) 0
    unfolding every
    field-later o a more =
        let x = drop at table in
        let y = drop e table in
        let later = rows_within (e + row_size) end table in
        let next : rest ≡ y ∷ later = rows_next table e end more in
        let all : rows_within at end table ≡ x ∷ (front ++ (y ∷ later)) = rows_are ∙ ap (λ (l : List (List ℕ)). x ∷ (front ++ l)) next in
        let p = both (is_proper y) (every is_proper later) (subst (λ (l : List (List ℕ)). every is_proper l ≡ true) next (ordered-rest o).proper) in
        let b = both (eqb (get_or y segment_column 0) k) (are_of k later) (subst (λ (l : List (List ℕ)). are_of k l ≡ true) next (of_rest a)) in
        let l = rises-above x y front later (subst (λ (l : List (List ℕ)). rises l ≡ true) all o.order) in
        let s = segment-is a ∙ sym (eqb-true (get_or y segment_column 0) k b.0) in
        let n = field_next (get_or x field_column 0) front y later (subst (λ (l : List (List ℕ)). of_field (get_or x field_column 0) (front ++ l) ≡ length front) next stops) in
        let h = field-rises x y (first-proper o) (proper_row y p.0) l s in
        rw (← get_or-drop at table field_column 0, ← get_or-drop e table field_column 0) (above (get_or x field_column 0) (get_or y field_column 0) h n)

-- a row says where the rows of the next field begin
pub next-begins : (table : List ℕ) (at end : ℕ) → row_size ≤ end - at → guides at (rows_within at end table) ≡ true
    → get_or table (at + next_column) 0 ≡ at + of_field (get_or table (at + field_column) 0) (rows_within at end table) * row_size
next-begins table at end more g =
    let x = drop at table in
    let rs = rows_within (at + row_size) end table in
    let n = rows_next table at end more in
    let h = (guides-first at x rs (subst (λ (l : List (List ℕ)). guides at l ≡ true) n g)).0 in
    rw n (rw (get_or-drop at table next_column 0, get_or-drop at table field_column 0) at h)

-- ONE FIELD: its number, how often it may repeat, and its leaves
module _ (table : List ℕ) (k at e : ℕ) (is : IsField table k at e) where
  abbrev others : List (List ℕ)
  others = rows_within (at + row_size) e table

  rows_of : rows_within at e table ≡ drop at table ∷ others
  rows_of = rows_next table at e (omega (arith, is.some))

  ordered_of : Ordered (drop at table ∷ others)
  ordered_of = subst Ordered rows_of is.ordered

  one_of : every (λ (r : List ℕ). same_field (drop at table) r) (drop at table ∷ others) ≡ true
  one_of = subst (λ (l : List (List ℕ)). every (λ (r : List ℕ). same_field (drop at table) r) l ≡ true) rows_of is.one

  proper_of : Proper (drop at table)
  unfolding every
  proper_of = proper_row (drop at table) (both (is_proper (drop at table)) (every is_proper others) ordered_of.proper).0

  pub field-low : first_field k ≤ get_or table (at + field_column) 0
  field-low = rw (is.segment, get_or-drop at table field_column 0) at proper_of.field

  pub field-most : 1 ≤ get_or table (at + repetitions_column) 0
  field-most = rw (get_or-drop at table repetitions_column 0) at proper_of.repeats

  pub field-namer : 10 ≤ get_or table (at + type_column) 0 → first_namer k ≤ get_or table (at + type_column) 0
  field-namer h = rw (is.segment, get_or-drop at table type_column 0) at (proper_of.named (rw (get_or-drop at table type_column 0) h))

  pub leaves-plain : get_or table (at + type_column) 0 < 10 → (names : ℕ → Text)
      → (leaves_of (table_of table) names (rule_at table at e) ≡ map leaf_of (rows_within at e table)) × Ascends 1 (map leaf_of (rows_within at e table))
  leaves-plain h names =
      let x = drop at table in
      let g : get_or x type_column 0 < 10 = rw (get_or-drop at table type_column 0) h in
      let p = plain_rows x x others one_of ordered_of.lone g in (
        plain-leaves (table_of table) names (rows_within at e table) (subst (λ (l : List (List ℕ)). every is_plain l ≡ true) (sym rows_of) p),
        subst (λ (l : List (List ℕ)). Ascends 1 (map leaf_of l)) (sym rows_of) (ascending x x 1 others one_of ordered_of.order ordered_of.proper p (proper_of.leaf g).0),
      )

  pub leaves-named : 10 ≤ get_or table (at + type_column) 0 → (names : ℕ → Text)
      → leaves_of (table_of table) names (rule_at table at e) ≡ leaves_named table (names (get_or table (at + type_column) 0 - 10))
  leaves-named h names =
      let x = drop at table in
      let g : 10 ≤ get_or x type_column 0 = rw (get_or-drop at table type_column 0) h in
      let only : rows_within at e table ≡ x ∷ [] = rows_of ∙ ap (λ (l : List (List ℕ)). x ∷ l) (named-alone x x others one_of ordered_of.lone g) in
      ap (λ (l : List (List ℕ)). flat_map (leaves_in (table_of table) names) (map listed_of l)) only
      ∙ named-leaf (table_of table) names x g
      ∙ ap (λ (f : ℕ). leaves_named table (names (f - 10))) (get_or-drop at table type_column 0)
