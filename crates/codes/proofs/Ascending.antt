-- What the table's rule says of a row, of two rows, and of the rows of one field.
use mathlib.Core.Path.{◌≡◌, refl, sym, ap, ◌∙◌}
use Prim.Native.Nat.{ℕ, ◌+◌, ◌*◌, ◌-◌, ◌≤◌, ◌<◌}
use native.Mathlib.Nat.{lt_trans}
use native.Mathlib.Omega.{arith}
use mathlib.Core.Bool.{Bool, true, not, ◌&&◌, ◌||◌}
use mathlib.Core.List.{List, [], ◌∷◌, ◌++◌, map, flat_map, append-nil}
use lib.ListN.{get_or}
use lib.Dec.{eqb, leb, ltb}
use borrow.Author.Tests as tests
use borrow.Author.Tests.{eqb-true, ltb-true, leb-true, leb-false, eq-eqb, lt-ltb, le-ltb}
use Rattle.text.specs.Bytes.{Text, every}
use Rattle.text.proofs.Tests.{both}
use Rattle.text.proofs.Lists.{and_both, or_either, or-none}
use Rattle.profile.specs.Table.{Leaf, Table, leaves_in, type_leaves}
use Rattle.profile.specs.Numbers.{leaf_of, listed_of, component_column, field_column, repetitions_column, segment_column, subcomponent_column, type_column, first_field, first_namer}
use Rattle.profile.specs.Order.{are_of, rank_of, rising, rises, small, is_named, reason_fits, lists_leaf, field_fits, namer_fits, is_proper, same_field, alone, Ordered}
use Rattle.codes.specs.Inner.{Ascends}
use Rattle.codes.proofs.Stretch.{apart}

-- a proper row
pub record Proper (r : List ℕ) : Type 0 where
  pub component-byte : get_or r component_column 0 < 256
  pub subcomponent-byte : get_or r subcomponent_column 0 < 256
  pub field : first_field (get_or r segment_column 0) ≤ get_or r field_column 0
  pub of_type_lem : 8 ≤ get_or r segment_column 0 → (get_or r field_column 0 ≡ 1) × (get_or r type_column 0 < 10)
  pub repeats : 1 ≤ get_or r repetitions_column 0
  pub named : 10 ≤ get_or r type_column 0 → first_namer (get_or r segment_column 0) ≤ get_or r type_column 0
  pub leaf : get_or r type_column 0 < 10 → (1 ≤ get_or r component_column 0) × (reason_fits (leaf_of r).list ≡ true)

above-leaves : (k n : ℕ) → first_namer k ≤ n → 10 ≤ n
above-leaves k n h = omega arith

module _ (r : List ℕ) where
  unnamed : not (is_named r) ≡ true → get_or r type_column 0 < 10
  unnamed e = leb-false 10 (get_or r type_column 0) (tests.not-true (is_named r) e)

  type-fits : ltb (get_or r segment_column 0) 8 || eqb (get_or r field_column 0) 1 && not (is_named r) ≡ true → 8 ≤ get_or r segment_column 0 → (get_or r field_column 0 ≡ 1) × (get_or r type_column 0 < 10)
  type-fits e l =
      or_either (ltb (get_or r segment_column 0) 8) (eqb (get_or r field_column 0) 1 && not (is_named r)) (λ h. absurd (omega (arith, ltb-true (get_or r segment_column 0) 8 h)))
      (λ h. let b = both (eqb (get_or r field_column 0) 1) (not (is_named r)) h in (eqb-true (get_or r field_column 0) 1 b.0, unnamed b.1))
      e

  abbrev namer : ℕ
  namer = first_namer (get_or r segment_column 0)

  names_one : namer_fits r || lists_leaf r ≡ true → 10 ≤ get_or r type_column 0 → namer ≤ get_or r type_column 0
  names_one e l =
      or_either (namer_fits r) (lists_leaf r) (λ h. leb-true namer (get_or r type_column 0) h)
      (λ h. absurd (omega (arith, unnamed (both (not (is_named r)) (leb 1 (get_or r component_column 0)) (both (not (is_named r) && leb 1 (get_or r component_column 0)) (reason_fits (leaf_of r).list) h).0).0)))
      e

  leaf-fits : namer_fits r || lists_leaf r ≡ true → get_or r type_column 0 < 10 → (1 ≤ get_or r component_column 0) × (reason_fits (leaf_of r).list ≡ true)
  leaf-fits e l =
      or_either (namer_fits r) (lists_leaf r) (λ h. absurd (omega (arith, above-leaves (get_or r segment_column 0) (get_or r type_column 0) (leb-true namer (get_or r type_column 0) h))))
      (λ h.
      let b = both (not (is_named r) && leb 1 (get_or r component_column 0)) (reason_fits (leaf_of r).list) h in
      (leb-true 1 (get_or r component_column 0) (both (not (is_named r)) (leb 1 (get_or r component_column 0)) b.0).1, b.1))
      e

  pub proper_row : is_proper r ≡ true → Proper r
  proper_row e =
      let a = both (small r && field_fits r && leb 1 (get_or r repetitions_column 0)) (namer_fits r || lists_leaf r) e in
      let b = both (small r && field_fits r) (leb 1 (get_or r repetitions_column 0)) a.0 in
      let c = both (small r) (field_fits r) b.0 in
      let d = both (ltb (get_or r field_column 0) 256 && ltb (get_or r component_column 0) 256) (ltb (get_or r subcomponent_column 0) 256) c.0 in
      let f = both (ltb (get_or r field_column 0) 256) (ltb (get_or r component_column 0) 256) d.0 in
      let g =
      both (leb (first_field (get_or r segment_column 0)) (get_or r field_column 0)) (ltb (get_or r segment_column 0) 8 || eqb (get_or r field_column 0) 1 && not (is_named r)) c.1
      in
      record {
        component-byte = ltb-true (get_or r component_column 0) 256 f.1;
        subcomponent-byte = ltb-true (get_or r subcomponent_column 0) 256 d.1;
        field = leb-true (first_field (get_or r segment_column 0)) (get_or r field_column 0) g.0;
        of_type_lem = type-fits g.1;
        repeats = leb-true 1 (get_or r repetitions_column 0) b.1;
        named = names_one a.1;
        leaf = leaf-fits a.1;
      }

-- two places: the columns as numbers
fields-rise : (s f c b f' c' b' : ℕ) → c < 256 → b < 256 → c' < 256 → b' < 256
    → ((s * 256 + f) * 256 + c) * 256 + b < ((s * 256 + f') * 256 + c') * 256 + b' → f ≤ f'
fields-rise s f c b f' c' b' h i j k l = omega arith

components-rise : (s f c b c' b' : ℕ) → b < 256 → b' < 256
    → ((s * 256 + f) * 256 + c) * 256 + b < ((s * 256 + f) * 256 + c') * 256 + b' → c ≤ c'
components-rise s f c b c' b' h i l = omega arith

module _ (x y : List ℕ) (p : Proper x) (q : Proper y) (l : rank_of x < rank_of y) (s : get_or x segment_column 0 ≡ get_or y segment_column 0) where
  pub field-rises : get_or x field_column 0 ≤ get_or y field_column 0
  field-rises =
      fields-rise (get_or y segment_column 0) (get_or x field_column 0) (get_or x component_column 0) (get_or x subcomponent_column 0) (get_or y field_column 0) (get_or y component_column 0) (get_or y subcomponent_column 0)
      p.component-byte p.subcomponent-byte q.component-byte q.subcomponent-byte (rw s at l)

  pub component-rises : get_or x field_column 0 ≡ get_or y field_column 0 → get_or x component_column 0 ≤ get_or y component_column 0
  component-rises f =
      components-rise (get_or y segment_column 0) (get_or y field_column 0) (get_or x component_column 0) (get_or x subcomponent_column 0) (get_or y component_column 0) (get_or y subcomponent_column 0)
      p.subcomponent-byte q.subcomponent-byte (rw (s, f) at l)

-- a row is before each that comes later
pub rises-above : (x y : List ℕ) (l r : List (List ℕ)) → rises (x ∷ (l ++ (y ∷ r))) ≡ true → rank_of x < rank_of y
unfolding rising
rises-above x y [] r e = ltb-true (rank_of x) (rank_of y) (both (ltb (rank_of x) (rank_of y)) (rises (y ∷ r)) e).0
rises-above x y (z ∷ l) r e =
    let h = both (ltb (rank_of x) (rank_of z)) (rises (z ∷ (l ++ (y ∷ r)))) e in
    lt_trans (ltb-true (rank_of x) (rank_of z) h.0) (rises-above z y l r h.1)

-- rows of one segment and one field
abbrev pub in_field : ℕ → List ℕ → Bool
in_field f r = eqb (get_or r field_column 0) f

pub one_field : (x : List ℕ) (k f : ℕ) → get_or x segment_column 0 ≡ k → get_or x field_column 0 ≡ f → (l : List (List ℕ)) → are_of k l ≡ true → every (in_field f) l ≡ true
    → every (λ (r : List ℕ). same_field x r) l ≡ true
unfolding every
one_field x k f e g [] a b = refl
one_field x k f e g (y ∷ l) a b =
    let h = both (eqb (get_or y segment_column 0) k) (are_of k l) a in
    let i = both (in_field f y) (every (in_field f) l) b in
    let s = eq-eqb (get_or x segment_column 0) (get_or y segment_column 0) (e ∙ sym (eqb-true (get_or y segment_column 0) k h.0)) in
    let c = eq-eqb (get_or x field_column 0) (get_or y field_column 0) (g ∙ sym (eqb-true (get_or y field_column 0) f i.0)) in
    and_both (same_field x y) (every (λ (r : List ℕ). same_field x r) l) (and_both _ _ s c) (one_field x k f e g l h.1 i.1)

same-segment : (x y : List ℕ) → same_field x y ≡ true → (get_or x segment_column 0 ≡ get_or y segment_column 0) × (get_or x field_column 0 ≡ get_or y field_column 0)
same-segment x y e =
    let h = both (eqb (get_or x segment_column 0) (get_or y segment_column 0)) (eqb (get_or x field_column 0) (get_or y field_column 0)) e in
    (eqb-true (get_or x segment_column 0) (get_or y segment_column 0) h.0, eqb-true (get_or x field_column 0) (get_or y field_column 0) h.1)

-- two rows of the field that z is of
module _ (z x y : List ℕ) (e : same_field z x ≡ true) (f : same_field z y ≡ true) where
  of_one : (get_or x segment_column 0 ≡ get_or y segment_column 0) × (get_or x field_column 0 ≡ get_or y field_column 0)
  of_one = (sym (same-segment z x e).0 ∙ (same-segment z y f).0, sym (same-segment z x e).1 ∙ (same-segment z y f).1)

  of_one_same : same_field x y ≡ true
  of_one_same =
      and_both (eqb (get_or x segment_column 0) (get_or y segment_column 0)) (eqb (get_or x field_column 0) (get_or y field_column 0)) (eq-eqb (get_or x segment_column 0) (get_or y segment_column 0) of_one.0)
      (eq-eqb (get_or x field_column 0) (get_or y field_column 0) of_one.1)

  -- side by side, neither of them names a type
  of_one_plain : apart x y ≡ true → (get_or x type_column 0 < 10) × (get_or y type_column 0 < 10)
  of_one_plain a =
      let n = or-none (is_named x) (is_named y) (tests.not-true (is_named x || is_named y) (rw of_one_same at a)) in
      (leb-false 10 (get_or x type_column 0) n.0, leb-false 10 (get_or y type_column 0) n.1)

-- rows that list leaves
abbrev pub is_plain : List ℕ → Bool
is_plain r = ltb (get_or r type_column 0) 10

pub plain_rows : (z x : List ℕ) (l : List (List ℕ)) → every (λ (r : List ℕ). same_field z r) (x ∷ l) ≡ true → alone (x ∷ l) ≡ true → get_or x type_column 0 < 10
    → every is_plain (x ∷ l) ≡ true
unfolding every alone
plain_rows z x [] e a h = rw (lt-ltb (get_or x type_column 0) 10 h)
plain_rows z x (y ∷ l) e a h =
    let f = both (same_field z x) (every (λ (r : List ℕ). same_field z r) (y ∷ l)) e in
    let g = both (same_field z y) (every (λ (r : List ℕ). same_field z r) l) f.1 in
    let b = both (apart x y) (alone (y ∷ l)) a in
    rw (lt-ltb (get_or x type_column 0) 10 h) (plain_rows z y l f.1 b.1 (of_one_plain z x y f.0 g.0 b.0).1)

pub plain-leaves : (T : Table) (names : ℕ → Text) (l : List (List ℕ)) → every is_plain l ≡ true
    → flat_map (leaves_in T names) (map listed_of l) ≡ map leaf_of l
unfolding every flat_map
plain-leaves T names [] e = refl
plain-leaves T names (x ∷ l) e =
    let h = both (is_plain x) (every is_plain l) e in
    rw h.0 (ap (λ (ls : List Leaf). leaf_of x ∷ ls) (plain-leaves T names l h.1))

-- a row that names a type is the only one of its field
pub named-alone : (z x : List ℕ) (l : List (List ℕ)) → every (λ (r : List ℕ). same_field z r) (x ∷ l) ≡ true → alone (x ∷ l) ≡ true → 10 ≤ get_or x type_column 0 → l ≡ []
unfolding every alone
named-alone z x [] e a h = refl
named-alone z x (y ∷ l) e a h =
    let f = both (same_field z x) (every (λ (r : List ℕ). same_field z r) (y ∷ l)) e in
    let g = both (same_field z y) (every (λ (r : List ℕ). same_field z r) l) f.1 in
    absurd (omega (arith, (of_one_plain z x y f.0 g.0 (both (apart x y) (alone (y ∷ l)) a).0).0))

pub named-leaf : (T : Table) (names : ℕ → Text) (x : List ℕ) → 10 ≤ get_or x type_column 0
    → flat_map (leaves_in T names) (map listed_of (x ∷ [])) ≡ type_leaves T.types T.otherwise (names (get_or x type_column 0 - 10))
unfolding flat_map
named-leaf T names x h =
    rw (le-ltb (get_or x type_column 0) 10 h) (append-nil (type_leaves T.types T.otherwise (names (get_or x type_column 0 - 10))))

-- THE LEAVES of one field rise
pub ascending : (z x : List ℕ) (k : ℕ) (l : List (List ℕ)) → every (λ (r : List ℕ). same_field z r) (x ∷ l) ≡ true → rises (x ∷ l) ≡ true
    → every is_proper (x ∷ l) ≡ true → every is_plain (x ∷ l) ≡ true → k ≤ get_or x component_column 0 → Ascends k (map leaf_of (x ∷ l))
unfolding every rising
ascending z x k [] e o p n h =
    let a = (proper_row x (both (is_proper x) true p).0).leaf (ltb-true (get_or x type_column 0) 10 (both (is_plain x) true n).0) in
    Ascends.next h a.1 Ascends.nothing
ascending z x k (y ∷ l) e o p n h =
    let f = both (same_field z x) (every (λ (r : List ℕ). same_field z r) (y ∷ l)) e in
    let g = both (same_field z y) (every (λ (r : List ℕ). same_field z r) l) f.1 in
    let u = both (ltb (rank_of x) (rank_of y)) (rises (y ∷ l)) o in
    let q = both (is_proper x) (every is_proper (y ∷ l)) p in
    let r = both (is_proper y) (every is_proper l) q.1 in
    let m = both (is_plain x) (every is_plain (y ∷ l)) n in
    let a = (proper_row x q.0).leaf (ltb-true (get_or x type_column 0) 10 m.0) in
    let s = of_one z x y f.0 g.0 in
    let c = component-rises x y (proper_row x q.0) (proper_row y r.0) (ltb-true (rank_of x) (rank_of y) u.0) s.0 s.1 in
    Ascends.next h a.1 (ascending z y (get_or x component_column 0) l f.1 u.1 q.1 m.1 c)

-- the rows of a type are of one field, and list leaves
pub type-field : (k : ℕ) → 8 ≤ k → (l : List (List ℕ)) → are_of k l ≡ true → every is_proper l ≡ true → (every (in_field 1) l ≡ true) × (every is_plain l ≡ true)
unfolding every
type-field k h [] a p = (refl, refl)
type-field k h (x ∷ l) a p =
    let b = both (eqb (get_or x segment_column 0) k) (are_of k l) a in
    let q = both (is_proper x) (every is_proper l) p in
    let f = (proper_row x q.0).of_type_lem (omega (arith, eqb-true (get_or x segment_column 0) k b.0)) in
    let i = type-field k h l b.1 q.1 in (
      and_both (in_field 1 x) (every (in_field 1) l) (eq-eqb (get_or x field_column 0) 1 f.0) i.0,
      and_both (is_plain x) (every is_plain l) (lt-ltb (get_or x type_column 0) 10 f.1) i.1,
    )

pub type-ascends : (k : ℕ) → 8 ≤ k → (l : List (List ℕ)) → Ordered l → are_of k l ≡ true → Ascends 1 (map leaf_of l)
unfolding every
type-ascends k h [] o a = Ascends.nothing
type-ascends k h (x ∷ l) o a =
    let f = type-field k h (x ∷ l) a o.proper in
    let s = eqb-true (get_or x segment_column 0) k (both (eqb (get_or x segment_column 0) k) (are_of k l) a).0 in
    let g = eqb-true (get_or x field_column 0) 1 (both (in_field 1 x) (every (in_field 1) l) f.0).0 in
    let p = proper_row x (both (is_proper x) (every is_proper l) o.proper).0 in
    ascending x x 1 l (one_field x k 1 s g (x ∷ l) a f.0) o.order o.proper f.1
    (p.leaf (ltb-true (get_or x type_column 0) 10 (both (is_plain x) (every is_plain l) f.1).0)).0
