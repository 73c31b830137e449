-- The observations of a group: the segments after its OBR, counted from where it ends.
use mathlib.Core.Path.{◌≡◌, refl, sym, ap}
use Prim.Native.Nat.{ℕ, zero, suc, ◌+◌, ◌≤◌, ◌<◌}
use native.Mathlib.Numerals.{add-one}
use native.Mathlib.Omega.{arith}
use mathlib.Core.Bool.{Bool, true, false}
use mathlib.Core.List.{List, [], ◌∷◌}
use lib.ListN.{length, get_or, drop, length-drop}
use lib.Seq.{length-take-le, drop-drop}
use borrow.Author.Tests.{ltb-false}
use Rattle.text.specs.Bytes.{Text, pick, bytes, cr}
use Rattle.parts.specs.Split.{ended}
use Rattle.parts.specs.Start.{before, reach}
use Rattle.parts.proofs.Split.{before-first}
use Rattle.parts.proofs.Reach.{ended-next, before-next}
use Rattle.parts.proofs.Descent.{within-length}
use Rattle.std.proofs.Common.{Some}
use Rattle.text.specs.declared.span.Span.{Span}
use Rattle.frame.specs.Segments.{segments, named, of_name}
use Rattle.frame.specs.Starts.{ahead}
use Rattle.reader.specs.Copied.{standing}
use Rattle.frame.proofs.Segments.{ahead-named}
use Rattle.reader.proofs.Seek.{ahead-inside, separator-ahead, standing_enough, standing-start, standing-inside, standing-text}
use Rattle.reader.specs.Observations.{observations, observations_from, observations_of}

-- where a piece that a separator ends stands, and what stands after it
module _ (sep : ℕ) where
  pieces-behind : (i : ℕ) (t : Text) (e : ℕ) → i < length (ended sep t) → e ≡ before sep t i + length (get_or (ended sep t) i [])
      → (e < length t) × (ended sep (drop (suc e) t) ≡ drop (suc i) (ended sep t))
  pieces-behind zero t e h k =
      let l = separator-ahead sep t (omega arith) in
      let n = ended-next sep t l in
      let z : e ≡ reach sep t = omega (arith, before-first sep t, rw n at k, length-take-le (reach sep t) t (omega arith)) in
      (omega arith, rw (n, z))
  pieces-behind (suc i) t e h k =
      let l = separator-ahead sep t (omega arith) in
      let n = ended-next sep t l in
      let u = drop (suc (reach sep t)) t in
      let d = before sep u i + length (get_or (ended sep u) i []) in
      let z : e ≡ suc (reach sep t) + d = omega (arith, before-next sep t i l, rw n at k) in
      let y : suc (reach sep t) + suc d ≡ suc e = omega arith in
      let ih = pieces-behind i u d (omega (arith, ap length n)) refl in
      (omega (arith, ih.0, length-drop (suc (reach sep t)) t), rw (n, ← y, ← drop-drop (suc d) (suc (reach sep t)) t) ih.1)

-- a group's count, by how many segments stand before its OBR
from_step : (s : Text) (ss : List Text) (b : Bool) → observations_from ss 0 ≡ observations (drop (suc (ahead (bytes "OBR") ss 0)) ss)
    → pick b (observations ss) (observations_from ss 0) ≡ observations (drop (suc (pick b 0 (suc (ahead (bytes "OBR") ss 0)))) (s ∷ ss))
from_step s ss true ih = refl
from_step s ss false ih = ih

group_from : (ss : List Text) (i : ℕ) → observations_from ss i ≡ observations (drop (suc (ahead (bytes "OBR") ss i)) ss)
unfolding observations_from ahead observations
group_from [] i = refl
group_from (s ∷ ss) zero = from_step s ss (named (bytes "OBR") s) (group_from ss 0)
group_from (s ∷ ss) (suc i) = group_from ss (pick (named (bytes "OBR") s) i (suc i))

-- THE COUNT of the group whose OBR stands there, told from after that OBR's CR
pub group_count : (m : Text) (g : ℕ) (s : Span) → 1 ≤ g → Some s ≡ standing m (bytes "OBR") g
    → (s.end < length m) × (observations (segments (drop (s.end + 1) m)) ≡ observations_of m g)
group_count m zero s l o = absurd (omega arith)
group_count m (suc i) s _ o =
    let n = bytes "OBR" in
    let ss = segments m in
    let k = ahead n ss i in
    let few = ltb-false (length (of_name n ss)) (suc i) (standing_enough m n (suc i) s o) in
    let w = standing-inside m n (suc i) s o in
    let z = within-length m s.start s.end w.0 w.1 in
    let t = ap length (standing-text m n (suc i) s o) in
    let l : s.end ≡ before cr m k + length (get_or ss k []) =
    omega (arith, standing-start m n (suc i) s o, ap length (ahead-named n ss i)) in
    let b = pieces-behind cr k m s.end (ahead-inside n ss i (omega arith)) l in
    (b.0, rw (add-one s.end, b.1) (sym (group_from ss i)))
