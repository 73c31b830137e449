-- What the loop of `piece` keeps: the piece sought, told from where the loop stands.
use mathlib.Core.Path.{◌≡◌, refl, sym, ap, ◌∙◌}
use Prim.Native.Nat.{ℕ, zero, suc, ◌+◌, ◌-◌, ◌≤◌, ◌<◌}
use native.Mathlib.Omega.{arith}
use mathlib.Core.List.{List, []}
use lib.ListN.{length, get_or, drop}
use Rattle.text.specs.Bytes.{Text}
use Rattle.text.specs.declared.span.Span.{Span}
use Rattle.parts.specs.Split.{split, piece}
use Rattle.parts.specs.Start.{before, start, reach}
use Rattle.parts.specs.Span.{span}
use Rattle.parts.proofs.Split.{before-first}
use Rattle.parts.proofs.Reach.{first-length, end-inside, split-on, before_on, split-end, before-end}

-- the span p is that of the piece with so many pieces before it, counted from a place on
abbrev pub Sought : ℕ → Text → Span → ℕ → ℕ → Type 0
Sought sep t p left from = span (from + before sep (drop from t) left) (get_or (split sep (drop from t)) left []) ≡ p

pub sought-first : (sep : ℕ) (t : Text) (n : ℕ) → (n ≡ 0 → ⊥) → Sought sep t (span (start sep n t) (piece n (split sep t))) (n - 1) 0
sought-first sep t zero h = absurd (h refl)
sought-first sep t (suc i) h =
    let e : suc i - 1 ≡ i = omega arith in
    let z : 0 + before sep t i ≡ before sep t i = omega arith in
    rw e (ap (λ (k : ℕ). span k (get_or (split sep t) i [])) z)

module _ (sep : ℕ) (t : Text) (p : Span) (from to : ℕ) (inside : from ≤ length t) (ends : to ≡ from + reach sep (drop from t)) where
  -- a piece further
  pub sought-on : (left rest : ℕ) → left ≡ rest + 1 → to < length t → Sought sep t p left from → Sought sep t p rest (to + 1)
  sought-on zero rest e more h = absurd (omega arith)
  sought-on (suc i) rest e more h =
      let n : rest ≡ i = omega arith in
      rw n
      (ap (λ (k : ℕ). span k (get_or (split sep (drop (to + 1) t)) i [])) (sym (before_on sep t from to inside ends more i))
      ∙ ap (λ (ps : List Text). span (from + before sep (drop from t) (suc i)) (get_or ps (suc i) [])) (sym (split-on sep t from to inside ends more))
      ∙ h)

  -- the piece begins here
  pub sought-here : (left : ℕ) → left ≤ 0 → Sought sep t p left from → record { start = from; end = to } ≡ p
  sought-here zero l h =
      let b : from + before sep (drop from t) 0 ≡ from = omega (arith, before-first sep (drop from t)) in
      let e : length (get_or (split sep (drop from t)) 0 []) ≡ to - from = omega (arith, ends, first-length sep (drop from t)) in
      let f : from + before sep (drop from t) 0 + length (get_or (split sep (drop from t)) 0 []) ≡ to = omega (arith, ends) in
      (λ i. record { start = sym b i; end = sym f i }) ∙ h
  sought-here (suc i) l h = absurd (omega arith)

  -- there is no such piece
  pub sought-none : (left : ℕ) → 0 < left → length t ≤ to → Sought sep t p left from → record { start = to; end = to } ≡ p
  sought-none zero l none h = absurd (omega arith)
  sought-none (suc i) l none h =
      let z : get_or (split sep (drop from t)) (suc i) [] ≡ [] = rw (split-end sep t from to inside ends none) in
      let b : from + before sep (drop from t) (suc i) ≡ to = omega (arith, before-end sep t from to inside ends none i, end-inside sep t from to inside ends) in
      let f : from + before sep (drop from t) (suc i) + length (get_or (split sep (drop from t)) (suc i) []) ≡ to = omega (arith, b, ap length z) in
      (λ j. record { start = sym b j; end = sym f j }) ∙ h
