-- Laws of the descent.
use mathlib.Core.Path.{◌≡◌, refl, sym, ap, ◌∙◌}
use Prim.Native.Nat.{ℕ, zero, suc, ◌+◌, ◌-◌, ◌≤◌, ◌<◌}
use native.Mathlib.Omega.{arith}
use mathlib.Core.Bool.{Bool, true, false}
use mathlib.Core.List.{List, [], ◌∷◌}
use lib.ListN.{length, get_or, take, drop, length-drop}
use lib.Seq.{take-length, length-take-le}
use lib.Dec.{eqb}
use Rattle.text.specs.Bytes.{Text, pick, empty, within}
use Rattle.text.proofs.Tests.{not-true}
use Rattle.text.specs.declared.marks.Marks.{Marks}
use Rattle.text.specs.declared.span.Span.{Span}
use Rattle.parts.specs.declared.Numbers.{Numbers}
use Rattle.parts.specs.Split.{front, split, piece, closed, Located, inside}
use Rattle.parts.specs.Start.{before, start}
use Rattle.parts.specs.Span.{span, part_text, part_start, mark_at_depth, number_at_depth, steps_from}
use Rattle.parts.specs.Descent.{Step, part}
use Rattle.parts.proofs.Split.{Stands, stands, stands_in, piece_le}

-- THE LAW that ties a part to its place, at every depth
pub part-stands : (ss : List Step) (t : Text) → Stands t (part_start ss t) (part_text ss t)
unfolding part_text part_start
part-stands [] t = take-length t
part-stands (s ∷ ss) t =
    let p = piece s.number (split s.mark t) in
    stands_in t (start s.mark s.number t) p (part_start ss p) (part_text ss p)
    (stands s.mark s.number t) (part-stands ss p)

-- what stands between two places of a text has the length between them
pub within-length : (m : Text) (from to : ℕ) → from ≤ to → to ≤ length m → length (within from to m) ≡ to - from
within-length m from to l h = length-take-le (to - from) (drop from m) (omega (arith, length-drop from m))

pub within-stands : (m : Text) (from to : ℕ) → from ≤ to → to ≤ length m → Stands m from (within from to m)
within-stands m from to l h = ap (λ (k : ℕ). take k (drop from m)) (within-length m from to l h)

-- the bytes of a piece, told by its start and end
pub within-piece : (t : Text) (sep n a e : ℕ) → a ≡ start sep n t → e ≡ a + length (piece n (split sep t)) → within a e t ≡ piece n (split sep t)
within-piece t sep n a e s f =
    let k : e - a ≡ length (piece n (split sep t)) = omega (arith, f) in
    rw (k, s) (stands sep n t)

-- ONE STEP of the descent, in the code's terms: the piece p of what stands from `from` up to `to`, found with that mark and number
module _ (m : Text) (from to : ℕ) (l : from ≤ to) (h : to ≤ length m) (sep n : ℕ) (p : Span) (found : p ≡ span (start sep n (within from to m)) (piece n (split sep (within from to m)))) where
  abbrev t : Text
  t = within from to m

  pub step_fits : (p.start ≤ p.end) × (from + p.end ≤ length m)
  step_fits = rw found (omega arith, omega (arith, piece_le sep n t, within-length m from to l h))

  pub step-text : within (from + p.start) (from + p.end) m ≡ piece n (split sep t)
  step-text =
      let x = piece n (split sep t) in
      let k = start sep n t in
      let e : from + (k + length x) - (from + k) ≡ length x = omega arith in
      rw (found, e) (stands_in m from t k x (within-stands m from to l h) (stands sep n t))

-- THE DESCENT told by spans: at depth 0, and one depth further down
abbrev pub reached : Marks → Numbers → ℕ → ℕ → ℕ → Text → Span
reached q w d from to m =
    span (from + part_start (steps_from q w d) (within from to m)) (part_text (steps_from q w d) (within from to m))

pub reached-all : (q : Marks) (w : Numbers) (d from to : ℕ) (m : Text) → from ≤ to → to ≤ length m → d ≡ 0
    → record { start = from; end = to } ≡ reached q w d from to m
unfolding steps_from part_text part_start
reached-all q w d from to m l h e =
    let n = within-length m from to l h in
    rw e (λ i. record { start = start_path i; end = end_path n i })
  where
    start_path : from ≡ from + 0
    start_path = omega arith

    end_path : length (within from to m) ≡ to - from → to ≡ from + 0 + length (within from to m)
    end_path n = omega arith

module _ (q : Marks) (w : Numbers) (m : Text) (from to : ℕ) (l : from ≤ to) (h : to ≤ length m) (p : Span) where
  down : (d : ℕ) → p ≡ span (start (mark_at_depth q (suc d)) (number_at_depth w (suc d)) (within from to m)) (piece (number_at_depth w (suc d)) (split (mark_at_depth q (suc d)) (within from to m)))
      → reached q w d (from + p.start) (from + p.end) m ≡ reached q w (suc d) from to m
  unfolding steps_from part_text part_start
  down d found =
      let sep = mark_at_depth q (suc d) in
      let n = number_at_depth w (suc d) in
      let t = within from to m in
      let x = piece n (split sep t) in
      let e : from + p.start ≡ from + start sep n t = ap (λ (s : Span). from + s.start) found in
      let f : from + p.start + part_start (steps_from q w d) x ≡ from + (start sep n t + part_start (steps_from q w d) x) = omega (arith, e) in
      rw (step-text m from to l h sep n p found) (ap (λ (k : ℕ). span k (part_text (steps_from q w d) x)) f)

  pub reached-down : (d sep n : ℕ) → p ≡ span (start sep n (within from to m)) (piece n (split sep (within from to m)))
      → sep ≡ mark_at_depth q d → n ≡ number_at_depth w d → (d ≡ 0 → ⊥)
      → (r : Span) → r ≡ reached q w (d - 1) (from + p.start) (from + p.end) m → r ≡ reached q w d from to m
  reached-down zero sep n found s k z r g = absurd (z refl)
  reached-down (suc d) sep n found s k z r g =
      let e : suc d - 1 ≡ d = omega arith in
      (rw e at g) ∙ down d (rw (← s, ← k) found)

-- nothing stands in no bytes
pub piece-nil : (sep n : ℕ) → piece n (split sep []) ≡ []
unfolding split
piece-nil sep zero = refl
piece-nil sep (suc zero) = refl
piece-nil sep (suc (suc i)) = refl

pub part-nil : (ss : List Step) → part_text ss [] ≡ []
unfolding part_text
part-nil [] = refl
part-nil (s ∷ ss) = rw (piece-nil s.mark s.number) (part-nil ss)

-- THE START of a piece, as the definition and as the code have it: the pieces before it, each with its separator, are the bytes before it
closed-step : (sep b : ℕ) (t : Text) (c : Bool) (ps : List Text) (j : ℕ) → ((i : ℕ) → i < length ps → length (closed sep (take i ps)) ≡ before sep t i)
    → suc j < length (front c b ps) → length (closed sep (take (suc j) (front c b ps))) ≡ suc (before sep t (pick c j (suc j)))
unfolding closed
closed-step sep b t true ps j ih l = ap suc (ih j (omega arith))
closed-step sep b t false [] j ih l = absurd (omega arith)
closed-step sep b t false (p ∷ ps) j ih l = ap suc (ih (suc j) (omega arith))

closed-before : (sep : ℕ) (t : Text) (i : ℕ) → i < length (split sep t) → length (closed sep (take i (split sep t))) ≡ before sep t i
unfolding split closed before
closed-before sep [] zero l = refl
closed-before sep [] (suc i) l = absurd (omega arith)
closed-before sep (b ∷ t) zero l = refl
closed-before sep (b ∷ t) (suc j) l = closed-step sep b t (eqb b sep) (split sep t) j (closed-before sep t) l

-- a piece that has bytes is there
pub there : (ps : List Text) (i : ℕ) → empty (get_or ps i []) ≡ false → i < length ps
there [] i e = not-true (sym e)
there (p ∷ ps) zero e = omega arith
there (p ∷ ps) (suc i) e = omega (arith, there ps i e)

pub inside-start : (sep n : ℕ) (t : Located) → empty (piece n (split sep t.text)) ≡ false → (inside sep n t).start ≡ t.start + start sep n t.text
inside-start sep zero t e = not-true (sym e)
inside-start sep (suc i) t e =
    let z : suc i - 1 ≡ i = omega arith in
    rw (z, closed-before sep t.text i (there (split sep t.text) i e))

-- the part of a text with its start: its bytes, and where they stand
pub part-text : (ss : List Step) (t : Located) → (part ss t).text ≡ part_text ss t.text
unfolding part part_text
part-text [] t = refl
part-text (s ∷ ss) t = part-text ss (inside s.mark s.number t)

outer : (ss : List Step) (p : Text) → empty (part_text ss p) ≡ false → empty p ≡ false
outer ss [] e = not-true (sym (rw part-nil at e))
outer ss (b ∷ p) e = refl

pub part-start : (ss : List Step) (t : Located) → empty (part_text ss t.text) ≡ false → (part ss t).start ≡ t.start + part_start ss t.text
unfolding part part_text part_start
part-start [] t e = omega arith
part-start (s ∷ ss) t e =
    let p = piece s.number (split s.mark t.text) in
    let h = part-start ss (inside s.mark s.number t) e in
    omega (arith, h, inside-start s.mark s.number t (outer ss p e))
