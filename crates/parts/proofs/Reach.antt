-- From one separator to the next: laws for a reader that goes on from where it stands.
use mathlib.Core.Path.{◌≡◌, refl, ap, ◌∙◌}
use Prim.Native.Nat.{ℕ, zero, suc, ◌+◌, ◌-◌, ◌≤◌, ◌<◌}
use native.Mathlib.Numerals.{add-one}
use native.Mathlib.Omega.{arith}
use mathlib.Core.Bool.{Bool, true, false}
use mathlib.Core.List.{List, [], ◌∷◌, drop_last}
use lib.ListN.{length, get_or, take, drop, length-drop, drop_of_length-le}
use lib.Seq.{drop-cons, drop-drop}
use lib.Dec.{eqb}
use borrow.Author.Tests.{eq-eqb, ne_eqb}
use Rattle.std.specs.List.{list_any}
use Rattle.text.specs.Bytes.{Text, pick}
use Rattle.text.proofs.Lists.{or-none, part-rest}
use Rattle.parts.specs.Split.{front, split, ended}
use Rattle.parts.specs.Start.{before, reach}
use Rattle.parts.proofs.Join.{Some, split-some}

module _ (sep : ℕ) where
  reach_step : (c : Bool) (r n : ℕ) → r ≤ n → pick c 0 (suc r) ≤ suc n
  reach_step true r n h = omega arith
  reach_step false r n h = omega arith

  pub reach_le : (t : Text) → reach sep t ≤ length t
  unfolding reach
  reach_le [] = omega arith
  reach_le (b ∷ t) = reach_step (eqb b sep) (reach sep t) (length t) (reach_le t)

  -- the first piece is what stands before it
  first_step : (b : ℕ) (c : Bool) (ps : List Text) (r : ℕ) → Some ps → length (get_or ps 0 []) ≡ r → length (get_or (front c b ps) 0 []) ≡ pick c 0 (suc r)
  first_step b true ps r s e = refl
  first_step b false [] r s e = absurd s
  first_step b false (p ∷ ps) r s e = ap suc e

  pub first-length : (t : Text) → length (get_or (split sep t) 0 []) ≡ reach sep t
  unfolding reach split
  first-length [] = refl
  first-length (b ∷ t) = first_step b (eqb b sep) (split sep t) (reach sep t) (split-some sep t) (first-length t)

  -- a separator is ahead: it ends the first piece, and the rest is cut after it
  next-step : (b : ℕ) (t : Text) (c : Bool)
      → (reach sep t < length t → split sep t ≡ take (reach sep t) t ∷ split sep (drop (suc (reach sep t)) t))
      → pick c 0 (suc (reach sep t)) < suc (length t)
      → front c b (split sep t) ≡ take (pick c 0 (suc (reach sep t))) (b ∷ t) ∷ split sep (drop (suc (pick c 0 (suc (reach sep t)))) (b ∷ t))
  next-step b t true ih h = refl
  next-step b t false ih h = rw (ih (omega arith))

  pub split-next : (t : Text) → reach sep t < length t → split sep t ≡ take (reach sep t) t ∷ split sep (drop (suc (reach sep t)) t)
  unfolding reach split
  split-next [] h = absurd (omega arith)
  split-next (b ∷ t) h = next-step b t (eqb b sep) (split-next t) h

  before-step : (t : Text) (c : Bool) (i : ℕ)
      → (reach sep t < length t → before sep t (suc i) ≡ suc (reach sep t) + before sep (drop (suc (reach sep t)) t) i)
      → pick c 0 (suc (reach sep t)) < suc (length t)
      → suc (before sep t (pick c i (suc i))) ≡ suc (pick c 0 (suc (reach sep t))) + before sep (drop (pick c 0 (suc (reach sep t))) t) i
  before-step t true i ih h = omega arith
  before-step t false i ih h = omega (arith, ih (omega arith))

  pub before-next : (t : Text) (i : ℕ) → reach sep t < length t
      → before sep t (suc i) ≡ suc (reach sep t) + before sep (drop (suc (reach sep t)) t) i
  unfolding reach before
  before-next [] i h = absurd (omega arith)
  before-next (b ∷ t) i h = before-step t (eqb b sep) i (before-next t i) h

  -- none is ahead: the text is its only piece
  last_step : (b : ℕ) (t : Text) (c : Bool) → (length t ≤ reach sep t → split sep t ≡ t ∷ [])
      → suc (length t) ≤ pick c 0 (suc (reach sep t)) → front c b (split sep t) ≡ (b ∷ t) ∷ []
  last_step b t true ih h = absurd (omega arith)
  last_step b t false ih h = rw (ih (omega arith))

  pub split-last : (t : Text) → length t ≤ reach sep t → split sep t ≡ t ∷ []
  unfolding reach split
  split-last [] h = refl
  split-last (b ∷ t) h = last_step b t (eqb b sep) (split-last t) h

  end_step : (t : Text) (c : Bool) (i : ℕ) → (length t ≤ reach sep t → before sep t (suc i) ≡ length t)
      → suc (length t) ≤ pick c 0 (suc (reach sep t)) → suc (before sep t (pick c i (suc i))) ≡ suc (length t)
  end_step t true i ih h = absurd (omega arith)
  end_step t false i ih h = ap suc (ih (omega arith))

  pub before_last : (t : Text) (i : ℕ) → length t ≤ reach sep t → before sep t (suc i) ≡ length t
  unfolding reach before
  before_last [] i h = refl
  before_last (b ∷ t) i h = end_step t (eqb b sep) i (before_last t i) h

  -- the same for the pieces that a separator ends
  drop-last : (p : Text) (ps : List Text) → Some ps → drop_last (p ∷ ps) ≡ p ∷ drop_last ps
  drop-last p [] s = absurd s
  drop-last p (r ∷ ps) s = refl

  pub ended-next : (t : Text) → reach sep t < length t → ended sep t ≡ take (reach sep t) t ∷ ended sep (drop (suc (reach sep t)) t)
  unfolding ended
  ended-next t h =
      let rest = drop (suc (reach sep t)) t in
      ap drop_last (split-next t h) ∙ drop-last (take (reach sep t) t) (split sep rest) (split-some sep rest)

  pub ended-last : (t : Text) → length t ≤ reach sep t → ended sep t ≡ []
  unfolding ended
  ended-last t h = ap drop_last (split-last t h)

  -- the same told by where the first one ends
  pub ended-first : (t : Text) (e : ℕ) → e ≡ 0 + reach sep t → e < length t
      → ended sep t ≡ take e t ∷ ended sep (take (length t - (e + 1)) (drop (e + 1) t))
  ended-first t e f more =
      let k : reach sep t ≡ e = omega (arith, f) in
      rw (part-rest (e + 1) t, add-one) (rw k at (ended-next t (omega (arith, f))))

  pub ended-none : (t : Text) (e : ℕ) → e ≡ 0 + reach sep t → length t ≤ e → ended sep t ≡ []
  ended-none t e f none = ended-last t (omega (arith, f))

  -- there are no more of them than bytes
  few_front : (b : ℕ) (c : Bool) (ps : List Text) (n : ℕ) → Some ps → length ps ≤ n → length (front c b ps) ≤ suc n
  few_front b true ps n s h = omega arith
  few_front b false [] n s h = absurd s
  few_front b false (p ∷ ps) n s h = omega arith

  split-few : (t : Text) → length (split sep t) ≤ suc (length t)
  unfolding split
  split-few [] = omega arith
  split-few (b ∷ t) = few_front b (eqb b sep) (split sep t) (suc (length t)) (split-some sep t) (split-few t)

  last_few : (p : Text) (ps : List Text) → length (drop_last (p ∷ ps)) ≤ length ps
  last_few p [] = omega arith
  last_few p (q ∷ ps) = omega (arith, last_few q ps)

  few_ended : (ps : List Text) (n : ℕ) → Some ps → length ps ≤ suc n → length (drop_last ps) ≤ n
  few_ended [] n s h = absurd s
  few_ended (p ∷ ps) n s h = omega (arith, last_few p ps)

  pub ended-few : (t : Text) → length (ended sep t) ≤ length t
  unfolding ended
  ended-few t = few_ended (split sep t) (length t) (split-some sep t) (split-few t)

  -- a byte further
  pub reach_here : (t : Text) (i : ℕ) → i < length t → get_or t i 0 ≡ sep → reach sep (drop i t) ≡ 0
  unfolding reach
  reach_here t i h e = rw (drop-cons t i 0 h, eq-eqb (get_or t i 0) sep e)

  pub reach-on : (t : Text) (i : ℕ) → i < length t → (get_or t i 0 ≡ sep → ⊥) → reach sep (drop i t) ≡ suc (reach sep (drop (i + 1) t))
  unfolding reach
  reach-on t i h e = rw (add-one, drop-cons t i 0 h, ne_eqb (get_or t i 0) sep e)

  pub reach-next : (t : Text) (i j : ℕ) → j ≡ i + 1 → i < length t → (get_or t i 0 ≡ sep → ⊥) → reach sep (drop i t) ≡ suc (reach sep (drop j t))
  reach-next t i j e h n = rw e (reach-on t i h n)

  pub reach-end : (t : Text) (i : ℕ) → length t ≤ i → reach sep (drop i t) ≡ 0
  unfolding reach
  reach-end t i h = rw (drop_of_length-le t h)

  -- no separator among so many bytes
  none-first : (t : Text) (k : ℕ) → k ≤ length t → list_any (λ b. eqb b sep) (take k t) ≡ false → reach sep t ≡ k + reach sep (drop k t)
  unfolding reach
  none-first t zero h e = omega arith
  none-first [] (suc k) h e = absurd (omega arith)
  none-first (b ∷ t) (suc k) h e =
      let o = or-none (eqb b sep) (list_any (λ x. eqb x sep) (take k t)) e in
      rw o.0 (omega (arith, none-first t k (omega arith) o.1))

  pub none-among : (t : Text) (i j : ℕ) → i ≤ j → j ≤ length t → list_any (λ b. eqb b sep) (take (j - i) (drop i t)) ≡ false
      → i + reach sep (drop i t) ≡ j + reach sep (drop j t)
  none-among t i j l h e =
      let k : i + (j - i) ≡ j = omega arith in
      let d : drop (j - i) (drop i t) ≡ drop j t = drop-drop (j - i) i t ∙ ap (λ (n : ℕ). drop n t) k in
      let f : reach sep (drop i t) ≡ (j - i) + reach sep (drop j t) =
      rw (← d) (none-first (drop i t) (j - i) (omega (arith, length-drop i t)) e) in
      omega arith

  -- the same told by positions: a piece that begins at `from` ends at `to`
  module _ (t : Text) (from to : ℕ) (inside : from ≤ length t) (ends : to ≡ from + reach sep (drop from t)) where
    pub end-inside : to ≤ length t
    end-inside = omega (arith, ends, reach_le (drop from t), length-drop from t)

    module _ (more : to < length t) where
      short : reach sep (drop from t) < length (drop from t)
      short = omega (arith, ends, length-drop from t)

      behind : drop (suc (reach sep (drop from t))) (drop from t) ≡ drop (to + 1) t
      behind =
          let e : from + suc (reach sep (drop from t)) ≡ to + 1 = omega (arith, ends) in
          drop-drop (suc (reach sep (drop from t))) from t ∙ ap (λ (k : ℕ). drop k t) e

      reached : reach sep (drop from t) ≡ to - from
      reached = omega (arith, ends)

      pub split-on : split sep (drop from t) ≡ take (to - from) (drop from t) ∷ split sep (drop (to + 1) t)
      split-on = rw (← behind, ← reached) (split-next (drop from t) short)

      pub ended-on : ended sep (drop from t) ≡ take (to - from) (drop from t) ∷ ended sep (drop (to + 1) t)
      ended-on = rw (← behind, ← reached) (ended-next (drop from t) short)

      pub before_on : (i : ℕ) → from + before sep (drop from t) (suc i) ≡ (to + 1) + before sep (drop (to + 1) t) i
      before_on i = rw (← behind) (omega (arith, ends, before-next (drop from t) i short))

    module _ (none : length t ≤ to) where
      whole : length (drop from t) ≤ reach sep (drop from t)
      whole = omega (arith, ends, length-drop from t)

      pub split-end : split sep (drop from t) ≡ drop from t ∷ []
      split-end = split-last (drop from t) whole

      pub ended-end : ended sep (drop from t) ≡ []
      ended-end = ended-last (drop from t) whole

      pub before-end : (i : ℕ) → from + before sep (drop from t) (suc i) ≡ length t
      before-end i = omega (arith, before_last (drop from t) i whole, length-drop from t)
