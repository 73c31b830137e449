-- Cutting and joining undo each other.
use mathlib.Core.Path.{◌≡◌, refl, ap, ◌∙◌}
use Prim.Native.Nat.{ℕ}
use native.Mathlib.Omega.{arith}
use mathlib.Core.Bool.{Bool, true, false}
use mathlib.Core.List.{List, [], ◌∷◌, ◌++◌, append-nil, drop_last}
use lib.Dec.{eqb}
use borrow.Author.Tests.{eq-eqb, eqb-true}
use Rattle.text.specs.Bytes.{Text}
use Rattle.parts.specs.Split.{front, split, ended, led, join, closed}

-- a text without the separator; pieces without it; at least one piece
abbrev pub Free : ℕ → Text → Type 0
Free sep [] = Unit
Free sep (b ∷ p) = (eqb b sep ≡ false) × Free sep p

abbrev pub AllFree : ℕ → List Text → Type 0
AllFree sep [] = Unit
AllFree sep (p ∷ ps) = Free sep p × AllFree sep ps

abbrev pub Some : List Text → Type 0
Some [] = ⊥
Some (p ∷ ps) = Unit

module _ (sep : ℕ) where
  -- a text without the separator is its only piece
  pub split_one : (p : Text) → Free sep p → split sep p ≡ p ∷ []
  unfolding split
  split_one [] f = refl
  split_one (b ∷ p) f = rw (f.0, split_one p f.1)

  -- what stands before the first separator is the first piece
  pub split-more : (p l : Text) → Free sep p → split sep (p ++ sep ∷ l) ≡ p ∷ split sep l
  unfolding split
  split-more [] l f = rw (eq-eqb sep sep refl)
  split-more (b ∷ p) l f = rw (f.0, split-more p l f.1)

  split-led : (p : Text) (ps : List Text) → Free sep p → AllFree sep ps → split sep (p ++ led sep ps) ≡ p ∷ ps
  unfolding led
  split-led p [] f fs = rw append-nil (split_one p f)
  split-led p (r ∷ ps) f fs =
      split-more p (r ++ led sep ps) f ∙ ap {B = List Text} (λ l. p ∷ l) (split-led r ps fs.0 fs.1)

  pub split-join : (ps : List Text) → Some ps → AllFree sep ps → split sep (join sep ps) ≡ ps
  unfolding join
  split-join [] n fs = absurd n
  split-join (p ∷ ps) n fs = split-led p ps fs.0 fs.1

  -- cutting gives at least one piece, and none with a separator
  front-some : (t : Bool) (b : ℕ) (ps : List Text) → Some (front t b ps)
  front-some true b ps = tt
  front-some false b [] = tt
  front-some false b (p ∷ ps) = tt

  pub split-some : (t : Text) → Some (split sep t)
  unfolding split
  split-some [] = tt
  split-some (b ∷ t) = front-some (eqb b sep) b (split sep t)

  front_free : (t : Bool) (b : ℕ) (ps : List Text) → eqb b sep ≡ t → AllFree sep ps → AllFree sep (front t b ps)
  front_free true b ps e fs = (tt, fs)
  front_free false b [] e fs = ((e, tt), tt)
  front_free false b (p ∷ ps) e fs = ((e, fs.0), fs.1)

  pub split_free : (t : Text) → AllFree sep (split sep t)
  unfolding split
  split_free [] = (tt, tt)
  split_free (b ∷ t) = front_free (eqb b sep) b (split sep t) refl (split_free t)

  front-join : (t : Bool) (b : ℕ) (ps : List Text) → eqb b sep ≡ t → Some ps → join sep (front t b ps) ≡ b ∷ join sep ps
  unfolding join led
  front-join true b [] e n = absurd n
  front-join true b (p ∷ ps) e n = rw (eqb-true b sep e)
  front-join false b [] e n = absurd n
  front-join false b (p ∷ ps) e n = refl

  pub join-split : (t : Text) → join sep (split sep t) ≡ t
  unfolding split join led
  join-split [] = refl
  join-split (b ∷ t) =
      front-join (eqb b sep) b (split sep t) refl (split-some t) ∙ ap {B = Text} (λ r. b ∷ r) (join-split t)

  -- pieces that a separator ends
  without_last : (ps : List Text) → drop_last (ps ++ ([] ∷ [])) ≡ ps
  without_last [] = refl
  without_last (p ∷ []) = refl
  without_last (p ∷ r ∷ ps) = ap {B = List Text} (λ l. p ∷ l) (without_last (r ∷ ps))

  split-closed : (ps : List Text) → AllFree sep ps → split sep (closed sep ps) ≡ ps ++ ([] ∷ [])
  unfolding closed
  split-closed [] fs = unfold split in refl
  split-closed (p ∷ ps) fs =
      split-more p (closed sep ps) fs.0 ∙ ap {B = List Text} (λ l. p ∷ l) (split-closed ps fs.1)

  pub ended-closed : (ps : List Text) → AllFree sep ps → ended sep (closed sep ps) ≡ ps
  unfolding ended
  ended-closed ps fs = ap drop_last (split-closed ps fs) ∙ without_last ps

  last_free : (ps : List Text) → AllFree sep ps → AllFree sep (drop_last ps)
  last_free [] fs = tt
  last_free (p ∷ []) fs = tt
  last_free (p ∷ r ∷ ps) fs = (fs.0, last_free (r ∷ ps) fs.1)

  pub ended_free : (t : Text) → AllFree sep (ended sep t)
  unfolding ended
  ended_free t = last_free (split sep t) (split_free t)

  -- a byte in front of a text that is its ended pieces, closed
  pub closed-front : (b c : ℕ) (t : Text) (k : Bool) (ps : List Text) → eqb b sep ≡ k
      → closed sep (drop_last ps) ≡ c ∷ t → closed sep (drop_last (front k b ps)) ≡ b ∷ c ∷ t
  unfolding closed
  closed-front b c t k [] e h = absurd (let z : ◌≡◌ {A = ℕ} 0 1 = cc in omega arith)
  closed-front b c t k (p ∷ []) e h = absurd (let z : ◌≡◌ {A = ℕ} 0 1 = cc in omega arith)
  closed-front b c t true (p ∷ r ∷ ps) e h = rw (eqb-true b sep e) (ap {B = Text} (λ l. sep ∷ l) h)
  closed-front b c t false (p ∷ r ∷ ps) e h = ap {B = Text} (λ l. b ∷ l) h
