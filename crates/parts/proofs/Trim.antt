-- Texts joined once the empty ones at the end are dropped: what is written of each, from the last one back.
use mathlib.Core.Path.{◌≡◌, refl, ◌∙◌}
use Prim.Native.Nat.{ℕ}
use mathlib.Core.Bool.{Bool, false, not, ◌&&◌, ◌||◌}
use mathlib.Core.List.{List, [], ◌∷◌, ◌++◌}
use Rattle.text.specs.Bytes.{Text, pick, empty}
use Rattle.parts.specs.Split.{led, join, trimmed}

-- a text before those that are left
join_step : (sep : ℕ) (p : Text) (r : List Text) → join sep (pick (empty p && empty r) [] (p ∷ r)) ≡ p ++ led sep r
unfolding join led
join_step sep [] [] = refl
join_step sep [] (q ∷ r) = refl
join_step sep (b ∷ p) [] = refl
join_step sep (b ∷ p) (q ∷ r) = refl

led-step : (sep : ℕ) (p : Text) (r : List Text)
    → led sep (pick (empty p && empty r) [] (p ∷ r)) ≡ pick (not (empty r) || not (empty p)) (sep ∷ p) [] ++ led sep r
unfolding led
led-step sep [] [] = refl
led-step sep [] (q ∷ r) = refl
led-step sep (b ∷ p) [] = refl
led-step sep (b ∷ p) (q ∷ r) = refl

left_step : (p : Text) (r : List Text) → not (empty (pick (empty p && empty r) [] (p ∷ r))) ≡ not (empty r) || not (empty p)
left_step [] [] = refl
left_step [] (q ∷ r) = refl
left_step (b ∷ p) [] = refl
left_step (b ∷ p) (q ∷ r) = refl

-- the first text is written as it is
pub trimmed-join : (sep : ℕ) (p : Text) (ps : List Text) → join sep (trimmed (p ∷ ps)) ≡ p ++ led sep (trimmed ps)
unfolding trimmed
trimmed-join sep p ps = join_step sep p (trimmed ps)

-- ANY OTHER is written after its separator where it has bytes, or where something is left of those after it
module _ (p : Text) (ps : List Text) {filled left : Bool} (f : not (empty p) ≡ filled) (l : not (empty (trimmed ps)) ≡ left) where
  pub trimmed-led : (sep : ℕ) → led sep (trimmed (p ∷ ps)) ≡ pick (left || filled) (sep ∷ p) [] ++ led sep (trimmed ps)
  unfolding trimmed
  trimmed-led sep = led-step sep p (trimmed ps) ∙ rw (l, f)

  pub trimmed-left : not (empty (trimmed (p ∷ ps))) ≡ left || filled
  unfolding trimmed
  trimmed-left = left_step p (trimmed ps) ∙ rw (l, f)

-- no text: nothing is written, and nothing is left
pub trimmed-none : (sep : ℕ) → led sep (trimmed []) ≡ []
unfolding led trimmed
trimmed-none sep = refl

pub none_left : not (empty (trimmed [])) ≡ false
unfolding trimmed
none_left = refl
