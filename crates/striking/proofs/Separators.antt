-- What is left of a segment: the separators around what is struck stay, at each depth, and what is not listed has no bytes.
use mathlib.Core.Path.{◌≡◌, refl, ap}
use Prim.Native.Nat.{ℕ, zero, suc}
use native.Mathlib.Omega.{arith}
use mathlib.Core.Bool.{Bool, true, false}
use mathlib.Core.List.{List, [], ◌∷◌, ◌++◌}
use lib.ListN.{length, take, drop}
use lib.Dec.{eqb}
use Rattle.text.specs.Bytes.{Text, pick}
use Rattle.text.specs.declared.marks.Marks.{Marks}
use Rattle.parts.specs.Split.{front, split, piece}
use Rattle.frame.specs.Segments.{name, is_header, field, unsplit}
use Rattle.profile.specs.Table.{Table}
use Rattle.parts.proofs.Descent.{piece-nil}
use Rattle.striking.specs.Strike.{rewritten, only_if, has_component, strike_subcomponent, strike_component, has_field, field_leaves, strike_field, strike_after_ninth, strike_header, strike_other, strike_segment}
use Rattle.striking.specs.Striking.{pieces, WhatIsLeft}
use Rattle.striking.proofs.Shrink.{piece-rewritten, count-rewritten}
use Rattle.striking.proofs.Kept.{subcomponent_shrinks, component_shrinks, unless, component-field, strike_in, in_shrinks, field_shrinks, field-struck, after_shrinks}

-- 1. Between the fields
front-count : (k : Bool) (b : ℕ) (ps rs : List Text) → length ps ≡ length rs → length (front k b ps) ≡ length (front k b rs)
front-count true b ps rs e = ap suc e
front-count false b [] [] e = refl
front-count false b [] (r ∷ rs) e = absurd (omega arith)
front-count false b (p ∷ ps) [] e = absurd (omega arith)
front-count false b (p ∷ ps) (r ∷ rs) e = e

-- after bytes that stay, pieces as many as before
count-behind : (sep : ℕ) (F : Text → Text) → ((t : Text) → pieces sep (F t) ≡ pieces sep t)
    → (k : ℕ) (s : Text) → pieces sep (take k s ++ F (drop k s)) ≡ pieces sep s
unfolding split
count-behind sep F h zero s = h s
count-behind sep F h (suc k) [] = h []
count-behind sep F h (suc k) (b ∷ s) =
    front-count (eqb b sep) b (split sep (take k s ++ F (drop k s))) (split sep s) (count-behind sep F h k s)

module _ (T : Table) (q : Marks) where
  count_by : (s : Text) (b : Bool) → pieces q.field (pick b (strike_header T q s) (strike_other T q s)) ≡ pieces q.field s
  count_by s true =
      count-behind q.field (rewritten q.field (strike_after_ninth T q s))
      (count-rewritten q.field (strike_after_ninth T q s) (after_shrinks T q s)) 9 s
  count_by s false =
      count-behind q.field (rewritten q.field (strike_field T q s))
      (count-rewritten q.field (strike_field T q s) (field_shrinks T q s)) 4 s

  segment-count : (s : Text) → pieces q.field (strike_segment T q s) ≡ pieces q.field s
  unfolding strike_segment
  segment-count s = count_by s (is_header s)

-- 2. Within a field
module _ (T : Table) (q : Marks) (s : Text) (f : ℕ) (has : has_field T (name s) f ≡ true) where
  repetitions_by : (k : Bool) (t : Text) → pieces q.repetition (unless k (strike_field T q s f) t) ≡ pieces q.repetition t
  repetitions_by true t = refl
  repetitions_by false t = rw has (count-rewritten q.repetition (strike_in T q s f) (in_shrinks T q s f) t)

  components_by : (k : Bool) (t : Text) (r : ℕ)
      → pieces q.component (piece r (split q.repetition (unless k (strike_field T q s f) t))) ≡ pieces q.component (piece r (split q.repetition t))
  components_by true t r = refl
  components_by false t r =
      let ls = field_leaves T q s f in
      rw (has, piece-rewritten q.repetition (strike_in T q s f) (in_shrinks T q s f) t r)
      (count-rewritten q.component (strike_component q ls) (component_shrinks q ls) (piece r (split q.repetition t)))

  module _ (c : ℕ) (listed : has_component (field_leaves T q s f) c ≡ true) where
    subcomponents_by : (k : Bool) (t : Text) (r : ℕ)
        → pieces q.subcomponent (piece c (split q.component (piece r (split q.repetition (unless k (strike_field T q s f) t)))))
        ≡ pieces q.subcomponent (piece c (split q.component (piece r (split q.repetition t))))
    subcomponents_by true t r = refl
    subcomponents_by false t r =
        let ls = field_leaves T q s f in
        let p = piece r (split q.repetition t) in
        rw (
          has,
          piece-rewritten q.repetition (strike_in T q s f) (in_shrinks T q s f) t r,
          piece-rewritten q.component (strike_component q ls) (component_shrinks q ls) p c,
          listed,
        )
        (count-rewritten q.subcomponent (strike_subcomponent ls c) (subcomponent_shrinks q ls c) (piece c (split q.component p)))

-- 3. What is not listed has no bytes left
module _ (T : Table) (q : Marks) (s : Text) (f : ℕ) where
  component_gone : (k : Bool) (t : Text) (r c : ℕ) → has_component (field_leaves T q s f) c ≡ false
      → piece c (split q.component (piece r (split q.repetition (only_if k (rewritten q.repetition (strike_in T q s f) t))))) ≡ []
  component_gone true t r c h =
      let ls = field_leaves T q s f in
      rw (
        piece-rewritten q.repetition (strike_in T q s f) (in_shrinks T q s f) t r,
        piece-rewritten q.component (strike_component q ls) (component_shrinks q ls) (piece r (split q.repetition t)) c,
        h,
      )
  component_gone false t r c h = rw (piece-nil q.repetition r) (piece-nil q.component c)

-- WHAT IS LEFT of a segment
pub leaves : (T : Table) (q : Marks) (s : Text) → WhatIsLeft T q s (strike_segment T q s)
leaves T q s =
    record {
      fields = segment-count T q s;
      repetitions = λ f h. rw (field-struck T q s f) (repetitions_by T q s f h (unsplit s f) (field q s f));
      components = λ f r h. rw (field-struck T q s f) (components_by T q s f h (unsplit s f) (field q s f) r);
      subcomponents =
          λ f r c h. rw (field-struck T q s f)
          (subcomponents_by T q s f (component-field T q s f c h) c h (unsplit s f) (field q s f) r);
      no_field = λ f u h. rw (field-struck T q s f, u, h);
      no_component =
          λ f r c u h. rw (field-struck T q s f, u) (component_gone T q s f (has_field T (name s) f) (field q s f) r c h);
    }
