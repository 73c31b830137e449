-- The lines of lists one after another.
use mathlib.Core.Path.{◌≡◌, refl, sym, ap, ◌∙◌}
use Prim.Native.Nat.{ℕ, ◌≤◌}
use native.Mathlib.Omega.{arith}
use mathlib.Core.Bool.{Bool, true, false}
use mathlib.Core.List.{List, [], ◌∷◌, ◌++◌, append_assoc}
use lib.ListN.{length, length-append}
use Rattle.text.specs.Bytes.{Text, pick, keep}
use Rattle.parts.specs.Split.{closed}
use Rattle.line.specs.Line.{newline}
use Rattle.chart.specs.Chart.{Charted, is_asked, chart_line, lines_of}
use Rattle.chart.specs.Inner.{asked_lines}

-- a list's line, where it is asked for, before the lines of the others
abbrev line_before : Bool → Charted → Text → Text
line_before b x t = pick b (chart_line x ++ newline ∷ t) t

lines_step : (b : Bool) (x : Charted) (l : List Charted) → lines_of (pick b (x ∷ l) l) ≡ line_before b x (lines_of l)
unfolding closed
lines_step true x l = refl
lines_step false x l = refl

before_more : (b : Bool) (x : Charted) (s t : Text) → line_before b x (s ++ t) ≡ line_before b x s ++ t
before_more true x s t = sym (append_assoc (chart_line x) (newline ∷ s) t)
before_more false x s t = refl

module _ (name : Text) (f k : ℕ) where
  pub asked-none : asked_lines name f k [] ≡ []
  unfolding keep closed
  asked-none = refl

  asked-step : (x : Charted) (l : List Charted) → asked_lines name f k (x ∷ l) ≡ line_before (is_asked name f k x) x (asked_lines name f k l)
  unfolding keep
  asked-step x l = lines_step (is_asked name f k x) x (keep (is_asked name f k) l)

  pub asked-more : (l r : List Charted) → asked_lines name f k (l ++ r) ≡ asked_lines name f k l ++ asked_lines name f k r
  asked-more [] r = ap (λ (t : Text). t ++ asked_lines name f k r) (sym asked-none)
  asked-more (x ∷ l) r =
      asked-step x (l ++ r)
      ∙ ap (line_before (is_asked name f k x) x) (asked-more l r)
      ∙ before_more (is_asked name f k x) x (asked_lines name f k l) (asked_lines name f k r)
      ∙ ap (λ (t : Text). t ++ asked_lines name f k r) (sym (asked-step x l))

  short-step : (b : Bool) (c t u : Text) → length t ≤ length u → length (pick b (c ++ newline ∷ t) t) ≤ length (c ++ newline ∷ u)
  short-step true c t u h = omega (arith, length-append c (newline ∷ t), length-append c (newline ∷ u))
  short-step false c t u h = omega (arith, length-append c (newline ∷ u))

  -- those that are asked for take no more room than all of them
  pub asked-short : (l : List Charted) → length (asked_lines name f k l) ≤ length (lines_of l)
  unfolding keep closed
  asked-short [] = omega arith
  asked-short (x ∷ l) =
      rw (lines_step (is_asked name f k x) x (keep (is_asked name f k) l))
      (short-step (is_asked name f k x) (chart_line x) (asked_lines name f k l) (lines_of l) (asked-short l))
