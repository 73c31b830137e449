-- The segments of a name with their starts: the bytes of each, and where it stands.
use mathlib.Core.Path.{◌≡◌, refl, sym, ap, ◌∙◌}
use Prim.Native.Nat.{ℕ, zero, suc, ◌+◌, ◌<◌}
use native.Mathlib.Omega.{arith}
use mathlib.Core.Bool.{Bool, true, false}
use mathlib.Core.List.{List, [], ◌∷◌, map, drop_last}
use lib.ListN.{length, get_or}
use Rattle.text.specs.Bytes.{Text, pick, cr, empty, keep}
use Rattle.text.proofs.Tests.{not-true}
use Rattle.parts.specs.Split.{split, ended, Located, whole, nothing, inside}
use Rattle.parts.proofs.Descent.{there, inside-start}
use Rattle.parts.specs.Start.{before}
use Rattle.frame.specs.Segments.{segments, named, of_name, occurrence, count_from, located_segments, occurrence_of}
use Rattle.frame.specs.Starts.{ahead, occurrence_start}
use Rattle.frame.proofs.Segments.{ahead-named}

abbrev text_of : Located → Text
text_of s = s.text

abbrev those_named : Text → List Located → List Located
those_named n ls = keep (λ (x : Located). named n x.text) ls

-- those of a name are told by their bytes
kept_step : (n : Text) (s : Located) (ls : List Located) (b : Bool) → ((i : ℕ) → (get_or (those_named n ls) i nothing).text ≡ get_or (of_name n (map text_of ls)) i [])
    → (i : ℕ) → (get_or (pick b (s ∷ those_named n ls) (those_named n ls)) i nothing).text
    ≡ get_or (pick b (s.text ∷ of_name n (map text_of ls)) (of_name n (map text_of ls))) i []
kept_step n s ls true ih zero = refl
kept_step n s ls true ih (suc i) = ih i
kept_step n s ls false ih i = ih i

kept-text : (n : Text) (ls : List Located) (i : ℕ) → (get_or (those_named n ls) i nothing).text ≡ get_or (of_name n (map text_of ls)) i []
unfolding keep
kept-text n [] i = refl
kept-text n (s ∷ ls) i = kept_step n s ls (named n s.text) (kept-text n ls) i

-- the pieces of a message that are its segments from number k on
module _ (m : Text) where
  abbrev pieces_from : ℕ → List Text → List Located
  pieces_from k ss = map (λ i. inside cr i (whole m)) (count_from (suc k) (length ss))

  abbrev Begins : ℕ → List Text → Type 0
  Begins k ss = (i : ℕ) → i < length ss → get_or (split cr m) (k + i) [] ≡ get_or ss i []

  begins-next : (k : ℕ) (s : Text) (ss : List Text) → Begins k (s ∷ ss) → Begins (suc k) ss
  begins-next k s ss h i l = let e : k + suc i ≡ suc k + i = omega arith in rw e at (h (suc i) (omega arith))

  begins-here : (k : ℕ) (s : Text) (ss : List Text) → Begins k (s ∷ ss) → get_or (split cr m) k [] ≡ s
  begins-here k s ss h = let e : k + 0 ≡ k = omega arith in rw e at (h 0 (omega arith))

  pieces-text : (k : ℕ) (ss : List Text) → Begins k ss → map text_of (pieces_from k ss) ≡ ss
  unfolding count_from
  pieces-text k [] h = refl
  pieces-text k (s ∷ ss) h = rw (begins-here k s ss h, pieces-text (suc k) ss (begins-next k s ss h))

  -- the one of a name that has i of that name before it
  sought-step : (n s : Text) (ss : List Text) (k : ℕ) (b : Bool) → named n s ≡ b
      → ((i : ℕ) → i < length (of_name n ss) → get_or (those_named n (pieces_from (suc k) ss)) i nothing ≡ inside cr (suc (suc k + ahead n ss i)) (whole m))
      → (i : ℕ) → i < length (pick b (s ∷ of_name n ss) (of_name n ss))
      → get_or (pick b (inside cr (suc k) (whole m) ∷ those_named n (pieces_from (suc k) ss)) (those_named n (pieces_from (suc k) ss))) i nothing
      ≡ inside cr (suc (k + ahead n (s ∷ ss) i)) (whole m)
  unfolding ahead
  sought-step n s ss k true e ih zero l = let z : k + 0 ≡ k = omega arith in rw (e, z)
  sought-step n s ss k true e ih (suc i) l =
      let z : k + suc (ahead n ss i) ≡ suc k + ahead n ss i = omega arith in
      rw (e, z) (ih i (omega arith))
  sought-step n s ss k false e ih zero l =
      let z : k + suc (ahead n ss 0) ≡ suc k + ahead n ss 0 = omega arith in
      rw (e, z) (ih 0 l)
  sought-step n s ss k false e ih (suc i) l =
      let z : k + suc (ahead n ss (suc i)) ≡ suc k + ahead n ss (suc i) = omega arith in
      rw (e, z) (ih (suc i) l)

  sought : (n : Text) (k : ℕ) (ss : List Text) → Begins k ss → (i : ℕ) → i < length (of_name n ss)
      → get_or (those_named n (pieces_from k ss)) i nothing ≡ inside cr (suc (k + ahead n ss i)) (whole m)
  unfolding keep count_from
  sought n k [] h i l = absurd (omega arith)
  sought n k (s ∷ ss) h i l =
      let t : named n (get_or (split cr m) k []) ≡ named n s = ap (named n) (begins-here k s ss h) in
      sought-step n s ss k (named n (get_or (split cr m) k [])) (sym t) (sought n (suc k) ss (begins-next k s ss h)) i (rw t l)

  -- the segments are the pieces that CR ends
  ended_same : (ps : List Text) (i : ℕ) → i < length (drop_last ps) → get_or ps i [] ≡ get_or (drop_last ps) i []
  ended_same [] i l = refl
  ended_same (p ∷ []) i l = absurd (omega arith)
  ended_same (p ∷ r ∷ ps) zero l = refl
  ended_same (p ∷ r ∷ ps) (suc i) l = ended_same (r ∷ ps) i (omega arith)

  segments-begin : Begins 0 (segments m)
  unfolding ended
  segments-begin i l = let z : 0 + i ≡ i = omega arith in rw z (ended_same (split cr m) i l)

  -- THE OCCURRENCE: its bytes
  pub occurrence-text : (n : Text) (o : ℕ) → (occurrence_of m n o).text ≡ occurrence m n o
  unfolding occurrence_of located_segments
  occurrence-text n zero = refl
  occurrence-text n (suc i) =
      kept-text n (pieces_from 0 (segments m)) i ∙ ap (λ (ss : List Text). get_or (of_name n ss) i []) (pieces-text 0 (segments m) segments-begin)

  -- and where it starts, where it has bytes
  pub occurrence-start : (n : Text) (o : ℕ) → empty (occurrence m n o) ≡ false → (occurrence_of m n o).start ≡ occurrence_start m n o
  unfolding occurrence_of located_segments
  occurrence-start n zero e = not-true (sym e)
  occurrence-start n (suc i) e =
      let l = there (of_name n (segments m)) i e in
      let found = sought n 0 (segments m) segments-begin i l in
      let a = ahead n (segments m) i in
      let z : 0 + a ≡ a = omega arith in
      let f : empty (get_or (segments m) a []) ≡ false = rw (← ahead-named n (segments m) i) e in
      let g : get_or (split cr m) a [] ≡ get_or (segments m) a [] = rw z at (segments-begin a (there (segments m) a f)) in
      let h : (inside cr (suc a) (whole m)).start ≡ 0 + before cr m a = inside-start cr (suc a) (whole m) (rw g f) in
      ap (λ (x : Located). x.start) found ∙ (rw z (h ∙ omega arith))
