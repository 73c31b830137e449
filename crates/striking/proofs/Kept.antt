-- A struck segment keeps its name and its listed leaves.
use mathlib.Core.Path.{◌≡◌, refl, sym, ap, ◌∙◌}
use Prim.Native.Nat.{ℕ, zero, suc, ◌≤◌}
use native.Mathlib.Omega.{arith}
use mathlib.Core.Bool.{Bool, true, false, not, ◌&&◌}
use mathlib.Core.List.{List, [], ◌∷◌, flat_map}
use lib.ListN.{take, drop}
use lib.Dec.{eqb, leb}
use borrow.Author.Tests.{lt-leb}
use Rattle.text.specs.Bytes.{Text, pick, empty, some}
use Rattle.text.specs.declared.marks.Marks.{Marks}
use Rattle.text.proofs.Tests.{both}
use Rattle.text.proofs.Lists.{some_mono}
use Rattle.parts.specs.Split.{split, piece}
use Rattle.parts.specs.Span.{part_text}
use Rattle.frame.specs.Segments.{name, is_header, field, unsplit}
use Rattle.frame.specs.Starts.{header_field}
use Rattle.profile.specs.Table.{Table, Leaf, Row}
use Rattle.frame.proofs.Segments.{field_is}
use Rattle.reader.specs.Place.{leaf_at}
use Rattle.reader.proofs.Leaf.{leaf_text, leaf-is}
use Rattle.reader.specs.Repetition.{leaf_in}
use Rattle.striking.specs.Strike.{rewritten, has_component, has_leaf, strike_subcomponent, strike_component, strike_repetition, rows_at, has_field, field_leaves, strike_field, after_ninth, strike_after_ninth, strike_header, strike_other, strike_segment}
use Rattle.striking.proofs.Shrink.{Sub, sub_self, sub_only, sub_behind, take-front, drop-front, Shrinks, rewritten_sub, piece-rewritten, rewritten-empty}

-- 1. Of a repetition, the listed leaves stay
module _ (q : Marks) (ls : List Leaf) where
  pub subcomponent_shrinks : (c : ℕ) → Shrinks (strike_subcomponent ls c)
  subcomponent_shrinks c b t = sub_only (has_leaf ls c b) (sub_self t)

  pub component_shrinks : Shrinks (strike_component q ls)
  component_shrinks c t =
      sub_only (has_component ls c) (rewritten_sub q.subcomponent (strike_subcomponent ls c) (subcomponent_shrinks c) t)

  repetition_sub : (t : Text) → Sub (strike_repetition q ls t) t
  repetition_sub t = rewritten_sub q.component (strike_component q ls) component_shrinks t

  has_component_lem : (c b : ℕ) → has_leaf ls c b ≡ true → has_component ls c ≡ true
  has_component_lem c b h =
      some_mono (λ (l : Leaf). eqb l.component c && eqb l.subcomponent b) (λ (l : Leaf). eqb l.component c)
      (λ l e. (both (eqb l.component c) (eqb l.subcomponent b) e).0) ls h

  pub leaf-kept : (t : Text) (c b : ℕ) → has_leaf ls c b ≡ true → leaf_in q (strike_repetition q ls t) c b ≡ leaf_in q t c b
  unfolding part_text
  leaf-kept t c b h =
      let p = piece c (split q.component t) in
      rw (
        piece-rewritten q.component (strike_component q ls) component_shrinks t c,
        has_component_lem c b h,
        piece-rewritten q.subcomponent (strike_subcomponent ls c) (subcomponent_shrinks c) p b,
        h,
      )

-- a leaf of a field's rows: the field has a row
some_row : (g : Leaf → Bool) (f : Row → List Leaf) (rs : List Row) → some g (flat_map f rs) ≡ true → not (empty rs) ≡ true
unfolding some flat_map
some_row g f [] e = e
some_row g f (r ∷ rs) e = refl

-- what is done to a field, unless it is unsplit
abbrev pub unless : Bool → (Text → Text) → Text → Text
unless true g t = t
unless false g t = g t

module _ (T : Table) (q : Marks) (s : Text) where
  has_field_lem : (f c b : ℕ) → has_leaf (field_leaves T q s f) c b ≡ true → has_field T (name s) f ≡ true
  unfolding field_leaves
  has_field_lem f c b h =
      some_row _ _ (rows_at T (name s) f) h

  pub component-field : (f c : ℕ) → has_component (field_leaves T q s f) c ≡ true → has_field T (name s) f ≡ true
  unfolding field_leaves
  component-field f c h =
      some_row _ _ (rows_at T (name s) f) h

  -- 2. Of a field, the listed leaves of each repetition stay
  abbrev pub strike_in : ℕ → ℕ → Text → Text
  strike_in f r t = strike_repetition q (field_leaves T q s f) t

  pub in_shrinks : (f : ℕ) → Shrinks (strike_in f)
  in_shrinks f r t = repetition_sub q (field_leaves T q s f) t

  pub field_shrinks : Shrinks (strike_field T q s)
  field_shrinks f t =
      sub_only (has_field T (name s) f) (rewritten_sub q.repetition (strike_in f) (in_shrinks f) t)

  text-kept : (w : Bool) (t : Text) (f r c b : ℕ) → has_leaf (field_leaves T q s f) c b ≡ true
      → leaf_text w q (unless w (strike_field T q s f) t) r c b ≡ leaf_text w q t r c b
  text-kept true t f r c b h = refl
  text-kept false t f r c b h =
      unfold part_text in
      rw (has_field_lem f c b h, piece-rewritten q.repetition (strike_in f) (in_shrinks f) t r)
      (leaf-kept q (field_leaves T q s f) (piece r (split q.repetition t)) c b h)

  -- 3. The segment's fields, each struck
  pub after_shrinks : Shrinks (strike_after_ninth T q s)
  after_shrinks k t = field_shrinks (after_ninth k) t

  header-front : (j : ℕ) → j ≤ 9 → take j (strike_header T q s) ≡ take j s
  header-front j h = take-front j 9 s (rewritten q.field (strike_after_ninth T q s)) (rewritten-empty q.field (strike_after_ninth T q s) after_shrinks) h

  other-front : (j : ℕ) → j ≤ 4 → take j (strike_other T q s) ≡ take j s
  other-front j h =
      take-front j 4 s (rewritten q.field (strike_field T q s)) (rewritten-empty q.field (strike_field T q s) field_shrinks) h

  front_by : (b : Bool) (j : ℕ) → j ≤ 4 → take j (pick b (strike_header T q s) (strike_other T q s)) ≡ take j s
  front_by true j h = header-front j (omega arith)
  front_by false j h = other-front j h

  pub front-struck : (j : ℕ) → j ≤ 4 → take j (strike_segment T q s) ≡ take j s
  unfolding strike_segment
  front-struck j h = front_by (is_header s) j h

  pub name-struck : name (strike_segment T q s) ≡ name s
  name-struck = front-struck 3 (omega arith)

  header-field : (f : ℕ) → header_field q (strike_header T q s) f ≡ unless (leb f 2) (strike_field T q s f) (header_field q s f)
  header-field zero = refl
  header-field (suc zero) = ap (drop 3) (header-front 4 (omega arith))
  header-field (suc (suc zero)) = ap (drop 4) (header-front 8 (omega arith))
  header-field (suc (suc (suc i))) =
      rw (
        lt-leb (suc (suc (suc i))) 2 (omega arith),
        drop-front 9 s (rewritten q.field (strike_after_ninth T q s)) (rewritten-empty q.field (strike_after_ninth T q s) after_shrinks),
      )
      (piece-rewritten q.field (strike_after_ninth T q s) after_shrinks (drop 9 s) (suc i))

  other-field : (f : ℕ) → piece f (split q.field (drop 4 (strike_other T q s))) ≡ strike_field T q s f (piece f (split q.field (drop 4 s)))
  other-field f =
      rw (drop-front 4 s (rewritten q.field (strike_field T q s)) (rewritten-empty q.field (strike_field T q s) field_shrinks))
      (piece-rewritten q.field (strike_field T q s) field_shrinks (drop 4 s) f)

  field_by : (b : Bool) (f : ℕ)
      → pick b (header_field q (pick b (strike_header T q s) (strike_other T q s)) f)
      (piece f (split q.field (drop 4 (pick b (strike_header T q s) (strike_other T q s)))))
      ≡ unless (b && leb f 2) (strike_field T q s f) (pick b (header_field q s f) (piece f (split q.field (drop 4 s))))
  field_by true f = header-field f
  field_by false f = other-field f

  pub field-struck : (f : ℕ) → field q (strike_segment T q s) f ≡ unless (unsplit s f) (strike_field T q s f) (field q s f)
  field-struck f =
      field_is q (strike_segment T q s) f
      ∙ rw name-struck (unfold strike_segment in field_by (is_header s) f)
      ∙ ap (unless (unsplit s f) (strike_field T q s f)) (sym (field_is q s f))

  pub unsplit-struck : (f : ℕ) → unsplit (strike_segment T q s) f ≡ unsplit s f
  unsplit-struck f = rw name-struck

  -- THE LISTED LEAVES STAY
  pub leaf-struck : (f r c b : ℕ) → has_leaf (field_leaves T q s f) c b ≡ true → leaf_at q (strike_segment T q s) f r c b ≡ leaf_at q s f r c b
  leaf-struck f r c b h =
      leaf-is q (strike_segment T q s) f r c b
      ∙ rw (field-struck f, unsplit-struck f) (text-kept (unsplit s f) (field q s f) f r c b h)
      ∙ sym (leaf-is q s f r c b)

  segment_by : (b : Bool) → Sub (pick b (strike_header T q s) (strike_other T q s)) s
  segment_by true = sub_behind 9 s (rewritten q.field (strike_after_ninth T q s)) (rewritten_sub q.field (strike_after_ninth T q s) after_shrinks)
  segment_by false = sub_behind 4 s (rewritten q.field (strike_field T q s)) (rewritten_sub q.field (strike_field T q s) field_shrinks)

  pub segment_sub : Sub (strike_segment T q s) s
  unfolding strike_segment
  segment_sub = segment_by (is_header s)
