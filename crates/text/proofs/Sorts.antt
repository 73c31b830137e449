-- Laws of the three sorts: what is Null has two bytes, and what is not Null is Text where it is not Empty.
use mathlib.Core.Path.{◌≡◌, refl}
use mathlib.Core.Bool.{Bool, true, false, not, ◌||◌}
use mathlib.Core.List.{[], ◌∷◌}
use lib.ListN.{length}
use Rattle.text.specs.Bytes.{Text, bytes, empty, same}
use Rattle.text.specs.Sorts.{is_null, is_text}
use Rattle.text.proofs.Tests.{not-true, same_true, same_length}

-- what is Null is the two quotation marks
pub null_is : (t : Text) → is_null t ≡ true → t ≡ bytes "\"\""
null_is t e = same_true t (bytes "\"\"") e

-- so it has two bytes
pub null_other : (t : Text) → (length t ≡ 2 → ⊥) → is_null t ≡ false
null_other t h = same_length t (bytes "\"\"") h

pub empty_null : (t : Text) → empty t ≡ true → is_null t ≡ false
unfolding same
empty_null [] e = refl
empty_null (b ∷ t) e = not-true e

-- of what is not Null, only Empty is no Text; Null is none
pub text_or_empty : (t : Text) → is_null t ≡ false → is_text t ≡ not (empty t)
text_or_empty t e = rw e

pub null_no_text : (t : Text) → is_null t ≡ true → is_text t ≡ false
null_no_text t e = rw e

-- a Text is neither
pub text_not_null : (t : Text) → is_text t ≡ true → is_null t ≡ false
text_not_null t e = step (is_null t) e where
  step : (b : Bool) → not (b || empty t) ≡ true → b ≡ false
  step true h = not-true h
  step false h = refl
