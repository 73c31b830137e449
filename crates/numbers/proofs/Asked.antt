-- A name that has not three bytes is looked up as any other that is not of the form.
use Prim.Native.Nat.{ℕ}
use native.Mathlib.Omega.{arith}
use mathlib.Core.Path.{◌≡◌, refl}
use mathlib.Core.Bool.{true, false}
use mathlib.Core.List.{List, [], ◌∷◌, ◌++◌}
use lib.ListN.{length, get_or}
use Rattle.text.specs.Bytes.{Text}
use Rattle.text.specs.Answer.{Test, test, first}
use Rattle.text.specs.declared.refusal.Refusal.{Refusal}
use Rattle.text.specs.declared.refusal.Refusal.TheVariants.{BadPlace}
use Rattle.frame.specs.Frame.{frame_tests}
use Rattle.frame.specs.Segments.{is_name}
use Rattle.reader.specs.Place.{Place, is_place}
use Rattle.reader.specs.LookUp.{look_up, found}
use Rattle.numbers.specs.Told.{place_asked}
use Rattle.numbers.specs.Inner.{SameLookUp}

-- a name of three bytes is those three
pub three : (t : Text) → length t ≡ 3 → t ≡ get_or t 0 0 ∷ get_or t 1 0 ∷ get_or t 2 0 ∷ []
three [] e = absurd (omega arith)
three (a ∷ []) e = absurd (omega arith)
three (a ∷ b ∷ []) e = absurd (omega arith)
three (a ∷ b ∷ c ∷ []) e = refl
three (a ∷ b ∷ c ∷ d ∷ t) e = absurd (omega arith)

no_name : (t : Text) → (length t ≡ 3 → ⊥) → is_name t ≡ false
no_name [] n = refl
no_name (a ∷ []) n = refl
no_name (a ∷ b ∷ []) n = refl
no_name (a ∷ b ∷ c ∷ []) n = absurd (n refl)
no_name (a ∷ b ∷ c ∷ d ∷ t) n = refl

-- after a refusal that applies nothing matters
behind : {A : Type 0} (ts us vs : List Test) (r : Refusal) (a b : A)
    → first (ts ++ (test r true ∷ us)) a ≡ first (ts ++ (test r true ∷ vs)) b
unfolding first
behind [] us vs r a b = refl
behind (t ∷ ts) us vs r a b = rw (behind ts us vs r a b)

-- two places that are none
none-same : (p q : Place) → is_place p ≡ false → is_place q ≡ false → SameLookUp p q
unfolding look_up
none-same p q e f m = rw (e, f) (behind (frame_tests m) _ _ BadPlace (found m p) (found m q))

-- three zeros for a name that has not three bytes
pub zeros-same : (name : Text) (n : List ℕ) → (length name ≡ 3 → ⊥) → SameLookUp (place_asked (0 ∷ 0 ∷ 0 ∷ []) n) (place_asked name n)
zeros-same name n e = none-same (place_asked (0 ∷ 0 ∷ 0 ∷ []) n) (place_asked name n) refl (rw (no_name name e))
