-- The listed segments of a struck message, and the text at a listed place.
use mathlib.Core.Path.{◌≡◌, refl, sym, ap, ◌∙◌}
use mathlib.Core.Logic.{◌⊎◌, inl, inr}
use Prim.Native.Nat.{ℕ, zero, suc}
use mathlib.Core.Bool.{Bool, true, false}
use mathlib.Core.List.{List, [], ◌∷◌, map}
use lib.ListN.{length, get_or, length-map}
use Rattle.text.specs.Bytes.{Text, pick, keep, empty}
use Rattle.text.specs.declared.marks.Marks.{Marks}
use Rattle.text.specs.Marks.{marks_of}
use Rattle.text.proofs.Tests.{not-true, same_true, both}
use Rattle.text.proofs.Lists.{All, or_either}
use Rattle.parts.specs.Split.{piece}
use Rattle.frame.specs.Segments.{segments, name, named, of_name, occurrence}
use Rattle.profile.specs.Table.{Table, is_listed}
use Rattle.reader.specs.Place.{Place, text_at}
use Rattle.reader.proofs.Stands.{text-is}
use Rattle.striking.specs.Strike.{is_listed_place, has_leaf, field_leaves, strike_segment, strike}
use Rattle.striking.proofs.Shrink.{sub_empty}
use Rattle.striking.proofs.Kept.{name-struck, leaf-struck, segment_sub}
use Rattle.striking.proofs.Message.{L, strikes, segments-struck}

-- 1. The segments of a listed name
module _ (T : Table) (q : Marks) (n : Text) (listed : is_listed T n ≡ true) where
  -- a segment of that name is listed, and one that is not listed is not of that name
  named-listed : (x : Text) → named n x ≡ true → L T q x ≡ true
  named-listed x e = rw (same_true (name x) n e) listed

  pub not_named : (x : Text) (b : Bool) → named n x ≡ b → L T q x ≡ false → b ≡ false
  not_named x true e f = not-true (sym f ∙ named-listed x e)
  not_named x false e f = refl

  name-step : (x : Text) (ls ss : List Text) (b c : Bool) → L T q x ≡ b → named n x ≡ c
      → of_name n (map (strike_segment T q) ls) ≡ map (strike_segment T q) (of_name n ss)
      → of_name n (map (strike_segment T q) (pick b (x ∷ ls) ls)) ≡ map (strike_segment T q) (pick c (x ∷ of_name n ss) (of_name n ss))
  unfolding keep
  name-step x ls ss true true e f h = rw (name-struck T q x, f, h)
  name-step x ls ss true false e f h = rw (name-struck T q x, f, h)
  name-step x ls ss false true e f h = not-true (sym e ∙ named-listed x f)
  name-step x ls ss false false e f h = h

  of_name-struck : (ss : List Text) → of_name n (strikes T q ss) ≡ map (strike_segment T q) (of_name n ss)
  unfolding keep
  of_name-struck [] = refl
  of_name-struck (x ∷ ss) = name-step x (keep (L T q) ss) ss (L T q x) (named n x) refl refl (of_name-struck ss)

get_d_map : (f : Text → Text) (l : List Text) (i : ℕ) → f [] ≡ [] → get_or (map f l) i [] ≡ f (get_or l i [])
get_d_map f [] i e = sym e
get_d_map f (x ∷ l) zero e = refl
get_d_map f (x ∷ l) (suc i) e = get_d_map f l i e

piece-map : (f : Text → Text) (l : List Text) (n : ℕ) → f [] ≡ [] → piece n (map f l) ≡ f (piece n l)
piece-map f l zero e = sym e
piece-map f l (suc i) e = get_d_map f l i e

-- what is found of a name has that name, or is nothing
pub found-named : (n : Text) (l : List Text) → All (λ x. named n x ≡ true) l → (o : ℕ) → (piece o l ≡ []) ⊎ (named n (piece o l) ≡ true)
found-named n l a zero = inl refl
found-named n l a (suc i) = go l a i
  where
    go : (l : List Text) → All (λ x. named n x ≡ true) l → (i : ℕ) → (get_or l i [] ≡ []) ⊎ (named n (get_or l i []) ≡ true)
    go [] a i = inl refl
    go (x ∷ l) a zero = inr a.0
    go (x ∷ l) a (suc i) = go l a.1 i

-- a text that is tested empty has no bytes
no_bytes : (t : Text) → empty t ≡ true → t ≡ []
no_bytes [] e = refl
no_bytes (b ∷ t) e = not-true e

-- 2. Its occurrences, and the text at a listed place
module _ (T : Table) (m : Text) where
  none-struck : strike_segment T (marks_of m) [] ≡ []
  none-struck = sub_empty (segment_sub T (marks_of m) [])

  named-struck : (n : Text) → is_listed T n ≡ true
      → of_name n (segments (strike T m)) ≡ map (strike_segment T (marks_of m)) (of_name n (segments m))
  named-struck n l = rw (segments-struck T m) (of_name-struck T (marks_of m) n l (segments m))

  pub occurrence-struck : (n : Text) (o : ℕ) → is_listed T n ≡ true
      → occurrence (strike T m) n o ≡ strike_segment T (marks_of m) (occurrence m n o)
  occurrence-struck n o l =
      ap (piece o) (named-struck n l) ∙ piece-map (strike_segment T (marks_of m)) (of_name n (segments m)) o none-struck

  pub occurrences_same : (n : Text) → is_listed T n ≡ true → length (of_name n (segments (strike T m))) ≡ length (of_name n (segments m))
  occurrences_same n l = ap length (named-struck n l) ∙ length-map (of_name n (segments m)) (strike_segment T (marks_of m))

  module _ (marks : marks_of (strike T m) ≡ marks_of m) (p : Place) (l : is_listed T p.name ≡ true) where
    -- where there is no such segment, there is no text
    pub text-none : occurrence m p.name p.occurrence ≡ [] → text_at (strike T m) p ≡ text_at m p
    text-none e = rw (text-is (strike T m) p, text-is m p, marks, occurrence-struck p.name p.occurrence l, e, none-struck)

    pub text_same : has_leaf (field_leaves T (marks_of m) (occurrence m p.name p.occurrence) p.field) p.component p.subcomponent ≡ true
        → text_at (strike T m) p ≡ text_at m p
    text_same h =
        rw (text-is (strike T m) p, text-is m p, marks, occurrence-struck p.name p.occurrence l)
        (leaf-struck T (marks_of m) (occurrence m p.name p.occurrence) p.field p.repetition p.component p.subcomponent h)

  -- AT A LISTED PLACE the text is as it was
  pub listed-text : marks_of (strike T m) ≡ marks_of m → (p : Place) → is_listed_place T m p ≡ true → text_at (strike T m) p ≡ text_at m p
  listed-text marks p e =
      let s = occurrence m p.name p.occurrence in
      let w = both (is_listed T p.name) _ e in
      or_either (empty s) _ (λ n. text-none marks p w.0 (no_bytes s n)) (text_same marks p w.0) w.1
