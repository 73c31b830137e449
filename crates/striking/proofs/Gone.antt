-- What the table does not list is struck: the leaves of a listed segment, and whole segments.
use mathlib.Core.Path.{◌≡◌, refl, sym, ap, ◌∙◌}
use mathlib.Core.Logic.{◌⊎◌, inl, inr}
use Prim.Native.Nat.{ℕ}
use native.Mathlib.Omega.{arith}
use mathlib.Core.Bool.{Bool, true, false, ◌&&◌}
use mathlib.Core.List.{List, [], ◌∷◌, map}
use lib.Dec.{leb, ltb}
use borrow.Author.Tests.{leb-true, leb-false, lt-ltb, le-ltb}
use Rattle.text.specs.Bytes.{Text, pick, bytes, keep, same}
use Rattle.text.specs.declared.marks.Marks.{Marks}
use Rattle.text.proofs.Tests.{not-true, same_true}
use Rattle.parts.specs.Split.{split, piece}
use Rattle.parts.specs.Descent.{in_field}
use Rattle.parts.specs.Span.{part_text}
use Rattle.parts.proofs.Descent.{piece-nil, part-nil}
use Rattle.parts.proofs.Members.{no_piece}
use Rattle.frame.specs.Segments.{name, named, of_name, field, unsplit}
use Rattle.profile.specs.Table.{Table, Leaf, is_listed}
use Rattle.reader.specs.Place.{leaf_at}
use Rattle.reader.proofs.Leaf.{leaf-split}
use Rattle.reader.specs.Repetition.{leaf_in}
use Rattle.striking.specs.Strike.{rewritten, only_if, has_component, has_leaf, strike_subcomponent, strike_component, strike_repetition, has_field, field_leaves, strike_segment}
use Rattle.striking.proofs.Shrink.{piece-rewritten}
use Rattle.striking.proofs.Kept.{subcomponent_shrinks, component_shrinks, strike_in, in_shrinks, name-struck, field-struck, unsplit-struck}
use Rattle.striking.proofs.Message.{L, strikes}

-- 1. Of a repetition, the leaves that are not listed go
module _ (q : Marks) (ls : List Leaf) where
  subcomponent_gone : (k : Bool) (t : Text) (c b : ℕ) → has_leaf ls c b ≡ false
      → piece b (split q.subcomponent (only_if k (rewritten q.subcomponent (strike_subcomponent ls c) t))) ≡ []
  subcomponent_gone true t c b h =
      rw (piece-rewritten q.subcomponent (strike_subcomponent ls c) (subcomponent_shrinks q ls c) t b, h)
  subcomponent_gone false t c b h = piece-nil q.subcomponent b

  leaf_gone : (t : Text) (c b : ℕ) → has_leaf ls c b ≡ false → leaf_in q (strike_repetition q ls t) c b ≡ []
  unfolding part_text
  leaf_gone t c b h =
      rw (piece-rewritten q.component (strike_component q ls) (component_shrinks q ls) t c)
      (subcomponent_gone (has_component ls c) (piece c (split q.component t)) c b h)

-- 2. Of a segment, the leaves that are not listed go, but for MSH-1 and MSH-2
module _ (T : Table) (q : Marks) (s : Text) (f r c b : ℕ) (h : has_leaf (field_leaves T q s f) c b ≡ false) where
  field_gone : (k : Bool) (t : Text) → part_text (in_field q r c b) (only_if k (rewritten q.repetition (strike_in T q s f) t)) ≡ []
  field_gone true t =
      unfold part_text in
      rw (piece-rewritten q.repetition (strike_in T q s f) (in_shrinks T q s f) t r)
      (leaf_gone q (field_leaves T q s f) (piece r (split q.repetition t)) c b h)
  field_gone false t = part-nil (in_field q r c b)

  pub leaf-struck-out : unsplit s f ≡ false → leaf_at q (strike_segment T q s) f r c b ≡ []
  leaf-struck-out e =
      leaf-split q (strike_segment T q s) f r c b (unsplit-struck T q s f ∙ e)
      ∙ rw (field-struck T q s f, e) (field_gone (has_field T (name s) f) (field q s f))

-- 3. A segment that the table does not name goes
module _ (T : Table) (q : Marks) (n : Text) (unlisted : is_listed T n ≡ false) where
  not_named : (x : Text) (b : Bool) → named n x ≡ b → L T q x ≡ true → b ≡ false
  not_named x true e l = not-true (sym unlisted ∙ rw (← same_true (name x) n e) l)
  not_named x false e l = refl

  none-step : (x : Text) (ls : List Text) (b : Bool) → L T q x ≡ b → of_name n (map (strike_segment T q) ls) ≡ []
      → of_name n (map (strike_segment T q) (pick b (x ∷ ls) ls)) ≡ []
  unfolding keep
  none-step x ls true l h = rw (name-struck T q x, not_named x (named n x) refl l) h
  none-step x ls false l h = h

  none_named : (ss : List Text) → of_name n (strikes T q ss) ≡ []
  unfolding keep
  none_named [] = refl
  none_named (x ∷ ss) = none-step x (keep (L T q) ss) (L T q x) refl (none_named ss)

  pub none_left : (ss : List Text) (o : ℕ) → piece o (of_name n (strikes T q ss)) ≡ []
  none_left ss o = ap (piece o) (none_named ss) ∙ no_piece o

-- 4. MSH-1 and MSH-2 are the header's alone
up_to_second : (f : ℕ) (b : Bool) → leb f 2 ≡ b → b ≡ ltb f 3
up_to_second f true e = sym (lt-ltb f 3 (omega (arith, leb-true f 2 e)))
up_to_second f false e = sym (le-ltb f 3 (omega (arith, leb-false f 2 e)))

pub splits : (n s : Text) (f : ℕ) → (s ≡ []) ⊎ (named n s ≡ true) → same n (bytes "MSH") && ltb f 3 ≡ false → unsplit s f ≡ false
splits n s f (inl e) h = rw e (unfold same in refl)
splits n s f (inr e) h = rw (same_true (name s) n e, up_to_second f (leb f 2) refl) h
