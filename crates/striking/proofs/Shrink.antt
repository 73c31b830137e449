-- What is left of a text when bytes are struck out, and what a rewritten text is cut into.
use mathlib.Core.Path.{◌≡◌, refl, sym, ap, ◌∙◌}
use Prim.Native.Nat.{ℕ, zero, suc, ◌≤◌, zero-le}
use native.Mathlib.Omega.{arith}
use mathlib.Core.Bool.{Bool, true, false}
use mathlib.Core.List.{List, [], ◌∷◌, ◌++◌}
use lib.ListN.{length, get_or, take, drop}
use Rattle.text.specs.Bytes.{Text, every}
use Rattle.text.proofs.Tests.{both}
use Rattle.text.proofs.Lists.{and_both}
use Rattle.parts.specs.Split.{split, piece, join, led}
use Rattle.parts.proofs.Join.{Free, AllFree, Some, split-some, split_free, split-join, join-split}
use Rattle.striking.specs.Strike.{change, rewritten, only_if}

-- the first is the second with bytes left out
pub data Sub : Text → Text → Type 0 where
  done : Sub [] []
  skip : {b : ℕ} {p t : Text} → Sub p t → Sub p (b ∷ t)
  hold : {b : ℕ} {p t : Text} → Sub p t → Sub (b ∷ p) (b ∷ t)

pub sub_self : (t : Text) → Sub t t
sub_self [] = done
sub_self (b ∷ t) = hold (sub_self t)

pub sub_none : (t : Text) → Sub [] t
sub_none [] = done
sub_none (b ∷ t) = skip (sub_none t)

pub sub_append : {p t r u : Text} → Sub p t → Sub r u → Sub (p ++ r) (t ++ u)
sub_append done k = k
sub_append (skip h) k = skip (sub_append h k)
sub_append (hold h) k = hold (sub_append h k)

pub sub_empty : {p : Text} → Sub p [] → p ≡ []
sub_empty done = refl

pub sub_free : (sep : ℕ) {p t : Text} → Sub p t → Free sep t → Free sep p
sub_free sep done f = tt
sub_free sep (skip h) f = sub_free sep h f.1
sub_free sep (hold h) f = (f.0, sub_free sep h f.1)

pub sub_every : (f : ℕ → Bool) {p t : Text} → Sub p t → every f t ≡ true → every f p ≡ true
unfolding every
sub_every f done e = refl
sub_every f (skip {b} {p} {t} h) e = sub_every f h (both (f b) (every f t) e).1
sub_every f (hold {b} {p} {t} h) e =
    let k = both (f b) (every f t) e in
    and_both (f b) (every f p) k.0 (sub_every f h k.1)

pub sub_length : {p t : Text} → Sub p t → length p ≤ length t
sub_length done = zero-le
sub_length (skip h) = omega (arith, sub_length h)
sub_length (hold h) = omega (arith, sub_length h)

pub sub_only : (b : Bool) {p t : Text} → Sub p t → Sub (only_if b p) t
sub_only true h = h
sub_only false {t = t} h = sub_none t

-- bytes in front stay
pub sub_behind : (k : ℕ) (s : Text) (F : Text → Text) → ((t : Text) → Sub (F t) t) → Sub (take k s ++ F (drop k s)) s
sub_behind zero s F h = h s
sub_behind (suc k) [] F h = h []
sub_behind (suc k) (b ∷ s) F h = hold (sub_behind k s F h)

pub take-front : (j k : ℕ) (s : Text) (F : Text → Text) → F [] ≡ [] → j ≤ k → take j (take k s ++ F (drop k s)) ≡ take j s
take-front zero k s F e h = refl
take-front (suc j) zero s F e h = absurd (omega arith)
take-front (suc j) (suc k) [] F e h = rw e
take-front (suc j) (suc k) (b ∷ s) F e h = ap {B = Text} (λ r. b ∷ r) (take-front j k s F e (omega arith))

pub drop-front : (k : ℕ) (s : Text) (F : Text → Text) → F [] ≡ [] → drop k (take k s ++ F (drop k s)) ≡ F (drop k s)
drop-front zero s F e = refl
drop-front (suc k) [] F e = rw e
drop-front (suc k) (b ∷ s) F e = drop-front k s F e

-- every piece is changed to one with bytes left out
abbrev pub Shrinks : (ℕ → Text → Text) → Type 0
Shrinks f = (k : ℕ) (p : Text) → Sub (f k p) p

change-some : (f : ℕ → Text → Text) (ps : List Text) → Some ps → Some (change f ps)
unfolding change
change-some f [] n = n
change-some f (p ∷ ps) n = tt

change_free : (sep : ℕ) (f : ℕ → Text → Text) (ps : List Text) → Shrinks f → AllFree sep ps → AllFree sep (change f ps)
unfolding change
change_free sep f [] h fs = tt
change_free sep f (p ∷ ps) h fs = (sub_free sep (h 1 p) fs.0, change_free sep (λ k. f (suc k)) ps (λ k. h (suc k)) fs.1)

change-led : (sep : ℕ) (f : ℕ → Text → Text) (ps : List Text) → Shrinks f → Sub (led sep (change f ps)) (led sep ps)
unfolding change led
change-led sep f [] h = done
change-led sep f (p ∷ ps) h = hold (sub_append (h 1 p) (change-led sep (λ k. f (suc k)) ps (λ k. h (suc k))))

change-join : (sep : ℕ) (f : ℕ → Text → Text) (ps : List Text) → Shrinks f → Sub (join sep (change f ps)) (join sep ps)
unfolding change join
change-join sep f [] h = done
change-join sep f (p ∷ ps) h = sub_append (h 1 p) (change-led sep (λ k. f (suc k)) ps (λ k. h (suc k)))

change-at : (f : ℕ → Text → Text) (ps : List Text) (i : ℕ) → Shrinks f → get_or (change f ps) i [] ≡ f (suc i) (get_or ps i [])
unfolding change
change-at f [] i h = sym (sub_empty (h (suc i) []))
change-at f (p ∷ ps) zero h = refl
change-at f (p ∷ ps) (suc i) h = change-at (λ k. f (suc k)) ps i (λ k. h (suc k))

change-length : (f : ℕ → Text → Text) (ps : List Text) → length (change f ps) ≡ length ps
unfolding change
change-length f [] = refl
change-length f (p ∷ ps) = ap suc (change-length (λ k. f (suc k)) ps)

-- THE LAW of one depth: a rewritten text is cut into the pieces, each of them changed
module _ (sep : ℕ) (f : ℕ → Text → Text) (h : Shrinks f) (t : Text) where
  pub split-rewritten : split sep (rewritten sep f t) ≡ change f (split sep t)
  unfolding rewritten
  split-rewritten =
      split-join sep (change f (split sep t)) (change-some f (split sep t) (split-some sep t))
      (change_free sep f (split sep t) h (split_free sep t))

  pub count-rewritten : length (split sep (rewritten sep f t)) ≡ length (split sep t)
  count-rewritten = ap length split-rewritten ∙ change-length f (split sep t)

  pub rewritten_sub : Sub (rewritten sep f t) t
  unfolding rewritten
  rewritten_sub = rw join-split at (change-join sep f (split sep t) h)

  pub piece-rewritten : (n : ℕ) → piece n (split sep (rewritten sep f t)) ≡ f n (piece n (split sep t))
  piece-rewritten zero = sym (sub_empty (h zero []))
  piece-rewritten (suc i) = rw split-rewritten (change-at f (split sep t) i h)

pub rewritten-empty : (sep : ℕ) (f : ℕ → Text → Text) → Shrinks f → rewritten sep f [] ≡ []
rewritten-empty sep f h = sub_empty (rewritten_sub sep f h [])
