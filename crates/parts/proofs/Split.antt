-- Laws of the splitting rule.
use mathlib.Core.Path.{◌≡◌, refl, sym, ap, ◌∙◌}
use Prim.Native.Nat.{ℕ, zero, suc, ◌+◌, ◌-◌, ◌≤◌}
use native.Mathlib.Nat.{zero-sub, sub-zero, suc-sub-suc}
use native.Mathlib.Omega.{arith}
use mathlib.Core.Bool.{Bool, true, false}
use mathlib.Core.List.{List, [], ◌∷◌, ◌++◌, append_assoc}
use lib.ListN.{length, get_or, take, drop, take-append-drop, length-take, length-drop}
use lib.Seq.{drop-drop, take-append_seam}
use lib.Dec.{eqb}
use Rattle.text.specs.Bytes.{Text, pick}
use Rattle.parts.specs.Split.{front, split, piece}
use Rattle.parts.specs.Start.{before, start}

-- where a text stands in another: after so many bytes
abbrev pub Stands : Text → ℕ → Text → Type 0
Stands t k p = take (length p) (drop k t) ≡ p

stands-split : (t : Text) (k : ℕ) (p : Text) → Stands t k p → drop k t ≡ p ++ drop (length p) (drop k t)
stands-split t k p h =
    sym (take-append-drop (length p) (drop k t)) ∙ ap (λ (r : Text). r ++ drop (length p) (drop k t)) h

drop_over : (j : ℕ) (p r : Text) → drop j (p ++ r) ≡ drop j p ++ drop (j - length p) r
drop_over zero p r = rw zero-sub
drop_over (suc j) [] r = rw sub-zero
drop_over (suc j) (b ∷ p) r = rw suc-sub-suc (drop_over j p r)

-- what stands in a part stands in the whole
pub stands_in : (t : Text) (k : ℕ) (p : Text) (j : ℕ) (r : Text) → Stands t k p → Stands p j r → Stands t (k + j) r
stands_in t k p j r h g =
    let x = drop (length p) (drop k t) in
    let y = drop (length r) (drop j p) in
    let e : drop (k + j) t ≡ r ++ (y ++ drop (j - length p) x) =
    sym (drop-drop j k t)
    ∙ ap (drop j) (stands-split t k p h)
    ∙ drop_over j p x
    ∙ ap (λ (l : Text). l ++ drop (j - length p) x) (stands-split p j r g)
    ∙ append_assoc r y (drop (j - length p) x) in
    rw e (take-append_seam r (y ++ drop (j - length p) x))

-- a byte in front of the pieces
first_step : (b : ℕ) (t : Text) (ps : List Text) → Stands t 0 (get_or ps 0 []) → Stands (b ∷ t) 0 (get_or (front false b ps) 0 [])
first_step b t [] h = refl
first_step b t (p ∷ ps) h = ap {B = Text} (λ r. b ∷ r) h

pub later-step : (b i : ℕ) (ps : List Text) → get_or (front false b ps) (suc i) [] ≡ get_or ps (suc i) []
later-step b i [] = refl
later-step b i (p ∷ ps) = refl

pub before-first : (sep : ℕ) (t : Text) → before sep t 0 ≡ 0
unfolding before
before-first sep [] = refl
before-first sep (b ∷ t) = refl

-- the piece that has i pieces before it stands after the bytes before it, told by whether the first byte is a separator
stands-step : (sep b : ℕ) (t : Text) (c : Bool) (i : ℕ) → ((j : ℕ) → Stands t (before sep t j) (get_or (split sep t) j []))
    → Stands t (before sep t (pick c i (suc i))) (get_or (front c b (split sep t)) (suc i) [])
stands-step sep b t true i ih = ih i
stands-step sep b t false i ih = rw (later-step b i (split sep t)) (ih (suc i))

stands-first : (sep b : ℕ) (t : Text) (c : Bool) → Stands t 0 (get_or (split sep t) 0 [])
    → Stands (b ∷ t) 0 (get_or (front c b (split sep t)) 0 [])
stands-first sep b t true h = refl
stands-first sep b t false h = first_step b t (split sep t) h

pub piece-stands : (sep : ℕ) (t : Text) (i : ℕ) → Stands t (before sep t i) (get_or (split sep t) i [])
unfolding split before
piece-stands sep [] zero = refl
piece-stands sep [] (suc i) = refl
piece-stands sep (b ∷ t) zero = stands-first sep b t (eqb b sep) (rw before-first at (piece-stands sep t 0))
piece-stands sep (b ∷ t) (suc i) = stands-step sep b t (eqb b sep) i (piece-stands sep t)

-- THE LAW that ties a piece to its place: its bytes are those from its start on
pub stands : (sep n : ℕ) (t : Text) → Stands t (start sep n t) (piece n (split sep t))
stands sep zero t = refl
stands sep (suc i) t = piece-stands sep t i

-- a piece lies in the text
pub before_le : (sep : ℕ) (t : Text) (i : ℕ) → before sep t i ≤ length t
unfolding before
before_le sep [] i = omega arith
before_le sep (b ∷ t) zero = omega arith
before_le sep (b ∷ t) (suc i) = omega (arith, before_le sep t (pick (eqb b sep) i (suc i)))

start_le : (sep n : ℕ) (t : Text) → start sep n t ≤ length t
start_le sep zero t = omega arith
start_le sep (suc i) t = before_le sep t i

pub stands_le : (t : Text) (k : ℕ) (p : Text) → k ≤ length t → Stands t k p → k + length p ≤ length t
stands_le t k p l h =
    omega (arith, ap length h, length-take (length p) (drop k t), length-drop k t)

pub piece_le : (sep n : ℕ) (t : Text) → start sep n t + length (piece n (split sep t)) ≤ length t
piece_le sep n t = stands_le t (start sep n t) (piece n (split sep t)) (start_le sep n t) (stands sep n t)
