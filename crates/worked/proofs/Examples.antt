-- Examples by computation: those that fail are listed, and where none is listed, all hold.
use mathlib.Core.Path.{◌≡◌, refl}
use Prim.Native.Nat.{ℕ}
use native.Mathlib.Omega.{arith}
use mathlib.Core.Bool.{Bool, true, false}
use mathlib.Core.List.{List, [], ◌∷◌}
use Rattle.text.specs.Bytes.{pick, same}
use Rattle.text.proofs.Tests.{same_true}
use Rattle.worked.specs.Worked.{Example, AllHold}

unfoldable pub failing : List Example → List Example
failing [] = []
failing (e ∷ es) = pick (same e.given e.said) (failing es) (e ∷ failing es)

none-step : (b : Bool) (e : Example) (es : List Example) → pick b (failing es) (e ∷ failing es) ≡ []
    → (b ≡ true) × (failing es ≡ [])
none-step true e es h = (refl, h)
none-step false e es h = absurd (let z : ◌≡◌ {A = ℕ} 0 1 = cc in omega arith)

pub all_hold : (es : List Example) → failing es ≡ [] → AllHold es
unfolding failing
all_hold [] h = tt
all_hold (e ∷ es) h =
    let k = none-step (same e.given e.said) e es h in
    (same_true e.given e.said k.0, all_hold es k.1)
