-- A refusal by ordered tests is the first that applies.
use mathlib.Core.Path.{◌≡◌, refl, ap}
use Prim.Native.Nat.{ℕ}
use native.Mathlib.Omega.{arith}
use mathlib.Core.Bool.{Bool, true, false}
use mathlib.Core.List.{List, [], ◌∷◌}
use Rattle.text.specs.Bytes.{pick, every}
use Rattle.text.specs.Answer.{refused, Test, first}
use Rattle.text.specs.First.{First, applies, FirstRefusal}
use Rattle.text.specs.declared.refusal.Refusal.{Refusal}

-- the head of a list is the first where the test holds of it; where not, the first of the rest is
pub first-here : {A : Type 0} (p : A → Bool) (a : A) (l : List A) → p a ≡ true → First p (a ∷ l) a
unfolding every
first-here p a l h = record { before = []; after = l; stands = refl; holds = h; none_before = refl }

pub first-later : {A : Type 0} (p : A → Bool) (x a : A) (l : List A) → p x ≡ false → First p l a → First p (x ∷ l) a
unfolding every
first-later p x a l h f =
    record {
      before = x ∷ f.before;
      after = f.after;
      stands = ap {B = List _} (λ k. x ∷ k) f.stands;
      holds = f.holds;
      none_before = rw h f.none_before;
    }

refusal-step : {A : Type 0} (t : Test) (ts : List Test) (a : A) (r : Refusal) (b : Bool) → t.applies ≡ b
    → (first ts a ≡ refused r → FirstRefusal ts r) → pick b (refused t.refusal) (first ts a) ≡ refused r → FirstRefusal (t ∷ ts) r
refusal-step t ts a r true s h e = record { test = t; first = first-here applies t ts s; refusal = cc }
refusal-step t ts a r false s h e =
    let f = h e in
    record { test = f.test; first = first-later applies t f.test ts s f.first; refusal = f.refusal }

-- A REFUSAL is the first that applies
pub first-refusal : {A : Type 0} (ts : List Test) (a : A) (r : Refusal) → first ts a ≡ refused r → FirstRefusal ts r
unfolding first
first-refusal [] a r e = absurd (let z : ◌≡◌ {A = ℕ} 0 1 = cc in omega arith)
first-refusal (t ∷ ts) a r e = refusal-step t ts a r t.applies refl (first-refusal ts a r) e
