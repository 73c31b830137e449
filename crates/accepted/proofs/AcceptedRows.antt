-- What an accepted message has at the leaves of a table's rows, by tests on the table.
use mathlib.Core.Path.{◌≡◌, refl, sym, subst, ◌∙◌}
use Prim.Native.Nat.{ℕ, ◌≤◌}
use native.Mathlib.Omega.{arith}
use mathlib.Core.Bool.{Bool, true, false, not, ◌&&◌, ◌||◌}
use mathlib.Core.List.{List, [], ◌∷◌}
use lib.ListN.{length}
use lib.Dec.{eqb}
use borrow.Author.Tests as tests
use borrow.Author.Tests.{ltb-false, eqb-true, eq-eqb}
use Rattle.text.specs.Bytes.{Text, empty, some, every, keep, same}
use Rattle.text.specs.declared.marks.Marks.{Marks}
use Rattle.text.specs.Marks.{marks_of}
use Rattle.escape.specs.Escape.{resolved}
use Rattle.escape.specs.Length.{Fits}
use Rattle.text.proofs.Tests.{not-true, both}
use Rattle.text.proofs.Lists.{All, and_both, all_map, all_both, all_keep, all-kept, all-flat_map, every-all, some_mono}
use Rattle.frame.specs.Segments.{occurrence, fewer}
use Rattle.profile.specs.Table.{Table, Leaf, Listed, leaf, named_by_field, Usage, O, R, C, Row, Rule, is_listed, rules_of, leaves_in, leaves_of}
use Rattle.profile.proofs.Gathered.{RowOk, RuleOk, gathered-all, all-gathered}
use Rattle.checks.proofs.Stands.{text-is}
use Rattle.checks.specs.Place.{place, leaf_at, text_at}
use Rattle.checks.specs.View.{named_in}
use Rattle.checks.specs.Fault.{accepted, verdict}
use Rattle.parts.proofs.Members.{keep_all, picked, all_of, all_where, flat_map-all}
use Rattle.accepted.proofs.AcceptedLeaf.{Kept, FieldKept, accepted-fields}

-- 1. Tests on a table
-- a row of that segment and field
abbrev is_of : Text → ℕ → Row → Bool
is_of n f r = same r.segment n && eqb r.field f

-- what a row lists is one leaf, and that passes the test
abbrev is_leaf : (Leaf → Bool) → Listed → Bool
is_leaf p (leaf l) = p l
is_leaf p (named_by_field f) = false

abbrev is_r : Usage → Bool
is_r O = false
is_r R = true
is_r (C f) = false

-- some row of the field lists a leaf that passes the test; each row of it does; each row of it says that the field is required
abbrev pub some_leaf : Table → Text → ℕ → (Leaf → Bool) → Bool
some_leaf T n f p = some (λ (r : Row). is_of n f r && is_leaf p r.lists) T.rows

abbrev pub every_leaf : Table → Text → ℕ → (Leaf → Bool) → Bool
every_leaf T n f p = every (λ (r : Row). not (is_of n f r) || is_leaf p r.lists) T.rows

abbrev pub every_r : Table → Text → ℕ → Bool
every_r T n f = every (λ (r : Row). not (is_of n f r) || is_r r.usage) T.rows

-- that leaf; with that limit; starred
abbrev pub is_at : ℕ → ℕ → Leaf → Bool
is_at c b l = eqb l.component c && eqb l.subcomponent b

abbrev pub is_limited : ℕ → ℕ → ℕ → Leaf → Bool
is_limited c b k l = is_at c b l && eqb l.limit k

abbrev pub is_starred : ℕ → ℕ → Leaf → Bool
is_starred c b l = is_at c b l && l.star

is_r_lem : (x : Usage) → is_r x ≡ true → x ≡ R
is_r_lem O e = not-true e
is_r_lem R e = refl
is_r_lem (C f) e = not-true e

-- 2. From the rules of a segment to its rows, and back
module _ (T : Table) (n : Text) where
  abbrev is_segment : Row → Bool
  is_segment r = same r.segment n

  rules_rows : (K : ℕ → Listed → Type 0) → All (λ (u : Rule). All (K u.field) u.lists) (rules_of T n)
      → All (λ (r : Row). is_segment r ≡ true → K r.field r.lists) T.rows
  unfolding rules_of
  rules_rows K a =
      keep_all (λ (r : Row). K r.field r.lists) is_segment T.rows (all-gathered K (keep is_segment T.rows) a)

  rows_rules : (K : ℕ → Listed → Type 0) (H : ℕ → Usage → ℕ → Type 0)
      → All (λ (r : Row). is_segment r ≡ true → RowOk K H r) T.rows → All (RuleOk K H) (rules_of T n)
  unfolding rules_of
  rows_rules K H a =
      gathered-all K H (keep is_segment T.rows)
      (all_map (λ r. (is_segment r ≡ true → RowOk K H r) × (is_segment r ≡ true)) (RowOk K H) (λ r w. w.0 w.1) (keep is_segment T.rows)
      (all_both (λ r. is_segment r ≡ true → RowOk K H r) (λ r. is_segment r ≡ true) (keep is_segment T.rows)
      (all_keep (λ r. is_segment r ≡ true → RowOk K H r) is_segment T.rows a)
      (all-kept is_segment T.rows)))

  -- a row that a test finds lists that leaf
  leaf-step : (K : Listed → Type 0) (p : Leaf → Bool) (x : Listed) → K x → is_leaf p x ≡ true → (l : Leaf) × (K (leaf l) × (p l ≡ true))
  leaf-step K p (leaf l) k e = (l, (k, e))
  leaf-step K p (named_by_field f) k e = not-true e

  leaf-found : (K : ℕ → Listed → Type 0) → All (λ (r : Row). is_segment r ≡ true → K r.field r.lists) T.rows
      → (f : ℕ) (p : Leaf → Bool) → some_leaf T n f p ≡ true → (l : Leaf) × (K f (leaf l) × (p l ≡ true))
  leaf-found K a f p e =
      let r = picked (λ r. is_segment r ≡ true → K r.field r.lists) (λ r. is_of n f r && is_leaf p r.lists) T.rows a e in
      let w = both (is_of n f r.0) (is_leaf p r.0.lists) r.1.1 in
      let v = both (is_segment r.0) (eqb r.0.field f) w.0 in
      leaf-step (K f) p r.0.lists (subst (λ (g : ℕ). K g r.0.lists) (eqb-true r.0.field f v.1) (r.1.0 v.0)) w.1

  -- its segment is listed
  leaf-listed : (f : ℕ) (p : Leaf → Bool) → some_leaf T n f p ≡ true → is_listed T n ≡ true
  leaf-listed f p e =
      some_mono (λ (r : Row). is_of n f r && is_leaf p r.lists) is_segment
      (λ r h. (both (is_segment r) (eqb r.field f) (both (is_of n f r) (is_leaf p r.lists) h).0).0) T.rows e

  -- what a test says of each row of a field
  implied : (a b : Bool) → not a || b ≡ true → a ≡ true → b ≡ true
  implied true b e h = e
  implied false b e h = not-true h

  field_told : (f : ℕ) (g : Row → Bool) → every (λ (r : Row). not (is_of n f r) || g r) T.rows ≡ true
      → All (λ (r : Row). is_segment r ≡ true → eqb r.field f ≡ true → g r ≡ true) T.rows
  field_told f g e =
      all_map (λ (r : Row). not (is_of n f r) || g r ≡ true) (λ (r : Row). is_segment r ≡ true → eqb r.field f ≡ true → g r ≡ true)
      (λ r h i j. implied (is_of n f r) (g r) h (and_both (is_segment r) (eqb r.field f) i j)) T.rows
      (every-all (λ (r : Row). not (is_of n f r) || g r) T.rows e)

  field-required : (f : ℕ) → every_r T n f ≡ true → All (λ (u : Rule). eqb u.field f ≡ true → u.usage ≡ R) (rules_of T n)
  field-required f e =
      let H : ℕ → Usage → ℕ → Type 0 = λ g x k. eqb g f ≡ true → is_r x ≡ true in
      all_map (RuleOk (λ g x. Unit) H) (λ u. eqb u.field f ≡ true → u.usage ≡ R) (λ u w h. is_r_lem u.usage (w.1 h)) (rules_of T n)
      (rows_rules (λ g x. Unit) H
      (all_map (λ r. is_segment r ≡ true → eqb r.field f ≡ true → is_r r.usage ≡ true) (λ r. is_segment r ≡ true → RowOk (λ g x. Unit) H r)
      (λ r w i. (tt, w i)) T.rows (field_told f (λ r. is_r r.usage) e)))

  field-leaves : (f : ℕ) (p : Leaf → Bool) → every_leaf T n f p ≡ true
      → All (λ (u : Rule). All (λ x. eqb u.field f ≡ true → is_leaf p x ≡ true) u.lists) (rules_of T n)
  field-leaves f p e =
      let K : ℕ → Listed → Type 0 = λ g x. eqb g f ≡ true → is_leaf p x ≡ true in
      all_map (RuleOk K (λ g x k. Unit)) (λ u. All (K u.field) u.lists) (λ u w. w.0) (rules_of T n)
      (rows_rules K (λ g x k. Unit)
      (all_map (λ r. is_segment r ≡ true → K r.field r.lists) (λ r. is_segment r ≡ true → RowOk K (λ g x k. Unit) r)
      (λ r w i. (w i, tt)) T.rows (field_told f (λ r. is_leaf p r.lists) e)))

-- 3. The leaves of an accepted message
some-length : (t : Text) → empty t ≡ false → 1 ≤ length t
some-length [] e = not-true (sym e)
some-length (b ∷ t) e = omega arith

kept-fits : (q : Marks) (l : Leaf) (t : Text) (k : ℕ) → eqb l.limit k ≡ true → Kept q l t → Fits q k t
kept-fits q l t k e w = record { good = w.good; short = omega (arith, eqb-true l.limit k e, ltb-false l.limit (length (resolved q t)) w.short) }

module _ (T : Table) (m : Text) (ok : verdict T m ≡ accepted) (n : Text) (o : ℕ) (low : 1 ≤ o) (there : fewer m n o ≡ false) (f c b : ℕ) where
  abbrev q : Marks
  q = marks_of m

  abbrev s : Text
  s = occurrence m n o

  abbrev text_of : ℕ → ℕ → Leaf → Text
  text_of g r l = leaf_at q s g r l.component l.subcomponent

  abbrev leaves_by : Listed → List Leaf
  leaves_by x = leaves_in T (named_in q s) x

  same_place : (r g : ℕ) (l : Leaf) → eqb g f ≡ true → is_at c b l ≡ true → text_of g r l ≡ leaf_at q s f r c b
  same_place r g l e i =
      let w = both (eqb l.component c) (eqb l.subcomponent b) i in
      rw (eqb-true g f e, eqb-true l.component c w.0, eqb-true l.subcomponent b w.1)

  -- it has no bad escape and is no longer than its limit
  pub accepted-fits : (k : ℕ) → some_leaf T n f (is_limited c b k) ≡ true
      → (r : ℕ) → Fits q k (text_at m (place n o f r c b))
  accepted-fits k e r =
      let K : ℕ → Listed → Type 0 = λ g x. All (λ (l : Leaf). Kept q l (text_of g r l)) (leaves_by x) in
      let l = leaf-found T n K
      (rules_rows T n K
      (all_map (FieldKept T q s) (λ u. All (K u.field) u.lists)
      (λ u w. flat_map-all (λ (l : Leaf). Kept q l (text_of u.field r l)) leaves_by u.lists (w.kept r)) (rules_of T n)
      (accepted-fields T m ok n (leaf-listed T n f (is_limited c b k) e) o low there)))
      f (is_limited c b k) e in
      let h = both (is_at c b l.0) (eqb l.0.limit k) l.1.1 in
      subst (Fits q k) (same_place r f l.0 (eq-eqb f f refl) h.0 ∙ sym (text-is m (place n o f r c b)))
      (kept-fits q l.0 (text_of f r l.0) k h.1 l.1.0.0)

  -- in a required field a starred leaf is there
  abbrev Required : Rule → Type 0
  Required u = FieldKept T q s u × (eqb u.field f ≡ true → u.usage ≡ R)

  required : is_listed T n ≡ true → every_r T n f ≡ true → All Required (rules_of T n)
  required l e =
      all_both (FieldKept T q s) (λ u. eqb u.field f ≡ true → u.usage ≡ R) (rules_of T n)
      (accepted-fields T m ok n l o low there) (field-required T n f e)

  pub accepted-starred : every_r T n f ≡ true → some_leaf T n f (is_starred c b) ≡ true → 1 ≤ length (text_at m (place n o f 1 c b))
  accepted-starred must e =
      let Has : ℕ → Leaf → Type 0 = λ g l. l.star ≡ true → empty (text_of g 1 l) ≡ false in
      let K : ℕ → Listed → Type 0 = λ g x. eqb g f ≡ true → All (Has g) (leaves_by x) in
      let l = leaf-found T n K
      (rules_rows T n K
      (all_map Required (λ u. All (K u.field) u.lists)
      (λ u w.
      all_where (λ x. All (Has u.field) (leaves_by x)) (eqb u.field f) u.lists
      (λ h. flat_map-all (Has u.field) leaves_by u.lists (w.0.starred (w.1 h))))
      (rules_of T n) (required (leaf-listed T n f (is_starred c b) e) must)))
      f (is_starred c b) e in
      let h = both (is_at c b l.0) l.0.star l.1.1 in
      rw (text-is m (place n o f 1 c b))
      (some-length (leaf_at q s f 1 c b)
      (rw (← same_place 1 f l.0 (eq-eqb f f refl) h.0) ((l.1.0 (eq-eqb f f refl)).0 h.1)))

  -- and so is the only leaf
  listed-only : (p : Leaf → Bool) (x : Listed) → is_leaf p x ≡ true → All (λ l. p l ≡ true) (leaves_by x)
  listed-only p (leaf l) e = (e, tt)
  listed-only p (named_by_field g) e = not-true e

  only-there : (u : Rule) → Required u → eqb u.field f ≡ true → All (λ x. is_leaf (is_at c b) x ≡ true) u.lists → empty (leaf_at q s f 1 c b) ≡ false
  only-there u w e a =
      let l = picked (λ l. is_at c b l ≡ true) (λ l. not (empty (text_of u.field 1 l))) (leaves_of T (named_in q s) u)
      (all-flat_map (λ l. is_at c b l ≡ true) leaves_by u.lists
      (all_map (λ x. is_leaf (is_at c b) x ≡ true) (λ x. All (λ l. is_at c b l ≡ true) (leaves_by x)) (listed-only (is_at c b)) u.lists a))
      (w.0.filled (w.1 e)) in
      rw (← same_place 1 u.field l.0 e l.1.0) (tests.not-true (empty (text_of u.field 1 l.0)) l.1.1)

  pub accepted-only : every_r T n f ≡ true → some_leaf T n f (is_at c b) ≡ true → every_leaf T n f (is_at c b) ≡ true
      → 1 ≤ length (text_at m (place n o f 1 c b))
  accepted-only must e only =
      let K : ℕ → Listed → Type 0 = λ g x. eqb g f ≡ true → empty (leaf_at q s f 1 c b) ≡ false in
      let Leaves : Rule → Type 0 = λ u. All (λ x. eqb u.field f ≡ true → is_leaf (is_at c b) x ≡ true) u.lists in
      let l = leaf-found T n K
      (rules_rows T n K
      (all_map (λ u. Required u × Leaves u) (λ u. All (K u.field) u.lists)
      (λ u w.
      all_of (K u.field)
      (λ x h.
      only-there u w.0 h
      (all_map (λ y. eqb u.field f ≡ true → is_leaf (is_at c b) y ≡ true) (λ y. is_leaf (is_at c b) y ≡ true) (λ y v. v h) u.lists w.1))
      u.lists)
      (rules_of T n)
      (all_both Required Leaves (rules_of T n) (required (leaf-listed T n f (is_at c b) e) must) (field-leaves T n f (is_at c b) only))))
      f (is_at c b) e in
      rw (text-is m (place n o f 1 c b)) (some-length (leaf_at q s f 1 c b) (l.1.0 (eq-eqb f f refl)))
