-- Laws of what stands from a piece on, and from a field on.
use mathlib.Core.Path.{◌≡◌, refl, sym, ◌∙◌}
use Prim.Native.Nat.{ℕ, zero, suc, ◌+◌, ◌-◌, ◌≤◌, ◌<◌}
use native.Mathlib.Nat.{sub-zero}
use native.Mathlib.Omega.{arith}
use mathlib.Core.Bool.{Bool, true, false, ◌&&◌}
use mathlib.Core.List.{[]}
use lib.ListN.{length, get_or, take, drop, length-drop}
use lib.Seq.{take-length}
use borrow.Author.Tests.{le-leb, lt-leb, leb-false, ne_eqb}
use lib.Dec.{eqb, leb}
use Rattle.text.specs.Bytes.{Text, pick, within}
use Rattle.text.specs.declared.marks.Marks.{Marks}
use Rattle.parts.specs.Split.{split, piece}
use Rattle.parts.specs.Start.{reach}
use Rattle.parts.specs.Descent.{in_repetition}
use Rattle.parts.specs.Span.{part_text}
use Rattle.parts.proofs.Split.{before-first}
use Rattle.parts.proofs.Descent.{within-piece, piece-nil}
use Rattle.parts.proofs.Reach.{reach_le, first-length, split-on, split-end}
use Rattle.frame.specs.Segments.{is_header, field, unsplit}
use Rattle.frame.proofs.Segments.{field-header, field-other}
use Rattle.checks.specs.Place.{leaf_at}
use Rattle.checks.proofs.Leaf.{leaf-split, leaf-one}
use Rattle.cutting.specs.FromField.{Behind, FieldsFrom, first_repetition, first_leaf}

-- THE FIRST PIECE, told by where it ends
module _ (sep : ℕ) (t : Text) (e : ℕ) (ends : e ≡ 0 + reach sep t) where
  pub first-inside : e ≤ length t
  first-inside = omega (arith, ends, reach_le sep t)

  pub first-bytes : take e t ≡ piece 1 (split sep t)
  first-bytes = rw sub-zero at (within-piece t sep 1 0 e (sym (before-first sep t)) (omega (arith, ends, first-length sep t)))

-- WHAT STANDS AFTER SEPARATORS, told from where a loop stands that has `left` of them to pass
abbrev pub Left : ℕ → Text → ℕ → ℕ → ℕ → Type 0
Left sep t n left from = (i : ℕ) → get_or (split sep (drop from t)) (left + i) [] ≡ get_or (split sep t) (n + i) []

module _ (sep : ℕ) (t : Text) (n from to : ℕ) (inside : from ≤ length t) (ends : to ≡ from + reach sep (drop from t)) where
  pub left-on : (left rest : ℕ) → left ≡ rest + 1 → to < length t → Left sep t n left from → Left sep t n rest (to + 1)
  left-on zero rest e more h = absurd (omega arith)
  left-on (suc k) rest e more h =
      let r : rest ≡ k = omega arith in
      rw r (λ i. let d : suc k + i ≡ suc (k + i) = omega arith in rw (d, split-on sep t from to inside ends more) at (h i))

  pub left-none : (left : ℕ) → 0 < left → length t ≤ to → Left sep t n left from → Behind sep n t []
  left-none zero l none h = absurd (omega arith)
  left-none (suc k) l none h =
      λ i. let d : suc k + i ≡ suc (k + i) = omega arith in piece-nil sep (suc i) ∙ (rw (d, split-end sep t from to inside ends none) at (h i))

pub left-done : (sep : ℕ) (t : Text) (n left from : ℕ) → left ≤ 0 → Left sep t n left from → Behind sep n t (drop from t)
left-done sep t n left from l h =
    let z : left ≡ 0 = omega arith in
    λ i. let d : 0 + i ≡ i = omega arith in rw (z, d) at (h i)

-- a text from a byte on
pub rest_all : (s : Text) (k : ℕ) → k ≤ length s → within k (length s) s ≡ drop k s
rest_all s k h =
    let e : length s - k ≡ length (drop k s) = omega (arith, length-drop k s) in
    rw e (take-length (drop k s))

-- MSH-1 AND MSH-2: unsplit, and Empty beyond the first leaf
module _ (s : Text) (e : is_header s ≡ true) (f c : ℕ) (low : f ≤ 2) (q : Marks) where
  one-leaf : leaf_at q s f 1 c 1 ≡ pick (eqb c 1 && true) (field q s f) []
  one-leaf = leaf-one q s f 1 c 1 (rw (e, le-leb f 2 low))

  pub unsplit-beyond : (c ≡ 1 → ⊥) → [] ≡ leaf_at q s f 1 c 1
  unsplit-beyond h = sym (one-leaf ∙ rw (ne_eqb c 1 h))

  pub unsplit-first : c ≡ 1 → f ≡ 1 → drop 3 (take 4 s) ≡ leaf_at q s f 1 c 1
  unsplit-first o h = sym (one-leaf ∙ rw (o, h) (field-header q s 1 e))

  pub unsplit-second : c ≡ 1 → 1 ≤ f → (f ≡ 1 → ⊥) → drop 4 (take 8 s) ≡ leaf_at q s f 1 c 1
  unsplit-second o l h =
      let two : f ≡ 2 = omega (arith, h) in
      sym (one-leaf ∙ rw (o, two) (field-header q s 2 e))

-- FROM A FIELD ON
header-fields : (q : Marks) (s : Text) (f : ℕ) (t : Text) → is_header s ≡ true → 3 ≤ f → Behind q.field (f - 2 - 1) (drop 9 s) t → FieldsFrom q s f t
header-fields q s zero t e l b = absurd (omega arith)
header-fields q s (suc zero) t e l b = absurd (omega arith)
header-fields q s (suc (suc zero)) t e l b = absurd (omega arith)
header-fields q s (suc (suc (suc i))) t e l b =
    λ j.
    let x : suc (suc (suc i)) - 2 - 1 + j ≡ i + j = omega arith in
    let y : suc (suc (suc i)) + j ≡ suc (suc (suc (i + j))) = omega arith in
    b j ∙ rw (x, y) (sym (field-header q s (suc (suc (suc (i + j)))) e))

pub other-fields : (q : Marks) (s : Text) (f : ℕ) (t : Text) → is_header s ≡ false → 1 ≤ f → Behind q.field (f - 1) (drop 4 s) t → FieldsFrom q s f t
other-fields q s zero t e l b = absurd (omega arith)
other-fields q s (suc i) t e l b =
    λ j.
    let x : suc i - 1 + j ≡ i + j = omega arith in
    let y : suc i + j ≡ suc (i + j) = omega arith in
    b j ∙ rw (x, y) (sym (field-other q s (suc (i + j)) e))

-- from MSH-3 on the header's fields are split, and so is every field of another segment
later-split : (b : Bool) (f : ℕ) → 3 ≤ f → b && leb f 2 ≡ false
later-split true f l = lt-leb f 2 l
later-split false f l = refl

pub third-split : (s : Text) (f : ℕ) → 3 ≤ f → unsplit s f ≡ false
third-split s f l = later-split (is_header s) f l

module _ (s : Text) (f : ℕ) (e : is_header s ≡ true) (cut : unsplit s f ≡ false) where
  pub split-third : 3 ≤ f
  split-third = let h = leb-false f 2 (rw e at cut) in omega (arith, h)

  pub split-fields : (q : Marks) (t : Text) → Behind q.field (f - 2 - 1) (drop 9 s) t → FieldsFrom q s f t
  split-fields q t b = header-fields q s f t e split-third b

-- THE FIRST LEAF of a component, after so many others
pub component-leaf : (q : Marks) (k : ℕ) (t u : Text) → Behind q.component k t u → first_leaf q u ≡ part_text (in_repetition q (suc k) 1) t
unfolding part_text
component-leaf q k t u b = let e : k + 0 ≡ k = omega arith in rw (b 0, e)

module _ (q : Marks) (s : Text) (f : ℕ) (t : Text) (from : FieldsFrom q s f t) (cut : unsplit s f ≡ false) where
  first_field : get_or (split q.field t) 0 [] ≡ field q s f
  first_field = let e : f + 0 ≡ f = omega arith in rw e at (from 0)

  pub field-leaves : (c : ℕ) → part_text (in_repetition q c 1) (first_repetition q t) ≡ leaf_at q s f 1 c 1
  unfolding part_text
  field-leaves c = rw (leaf-split q s f 1 c 1 cut, first_field)

  -- by its number
  pub numbered-leaf : (c : ℕ) (u : Text) → (c ≡ 0 → ⊥) → Behind q.component (c - 1) (first_repetition q t) u → first_leaf q u ≡ leaf_at q s f 1 c 1
  numbered-leaf zero u h b = absurd (h refl)
  numbered-leaf (suc k) u h b =
      let e : suc k - 1 ≡ k = omega arith in
      component-leaf q k (first_repetition q t) u (rw e at b) ∙ field-leaves (suc k)

-- there is no component 0
pub leaf_nought : (q : Marks) (s : Text) (f c : ℕ) → unsplit s f ≡ false → c ≡ 0 → [] ≡ leaf_at q s f 1 c 1
unfolding part_text
leaf_nought q s f c cut e = rw (leaf-split q s f 1 c 1 cut, e) (sym (piece-nil q.subcomponent 1))

-- AFTER SOME, and then after some more
pub behind-both : (sep a b : ℕ) (t u w : Text) → Behind sep a t u → Behind sep b u w → Behind sep (a + b) t w
behind-both sep a b t u w h g = λ i. let e : a + (b + i) ≡ a + b + i = omega arith in rw e at (g i ∙ h (b + i))

pub fields-behind : (q : Marks) (s : Text) (f n : ℕ) (t u : Text) → FieldsFrom q s f t → Behind q.field n t u → FieldsFrom q s (f + n) u
fields-behind q s f n t u h g = λ i. let e : f + (n + i) ≡ f + n + i = omega arith in rw e at (g i ∙ h (n + i))
