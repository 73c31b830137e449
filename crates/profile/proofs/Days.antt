-- Only a date names a day that does not exist; a text without a day, as no bytes are, names none.
use mathlib.Core.Path.{◌≡◌, refl}
use mathlib.Core.Bool.{true, false}
use mathlib.Core.List.{[], ◌∷◌}
use lib.ListN.{length}
use native.Mathlib.Omega.{arith}
use Rattle.text.specs.Bytes.{Text}
use Rattle.text.proofs.Tests.{not-true as no}
use Rattle.types.specs.Types.{digits, has_day}
use Rattle.profile.specs.Table.{Simple, SI, NM, DTM, TM, ST, TX, FT, ID, IS, no_such_day}

pub only-dates : (k : Simple) (t : Text) → no_such_day k t ≡ true → k ≡ DTM
only-dates SI t e = no e
only-dates NM t e = no e
only-dates DTM t e = refl
only-dates TM t e = no e
only-dates ST t e = no e
only-dates TX t e = no e
only-dates FT t e = no e
only-dates ID t e = no e
only-dates IS t e = no e

pub without_day : (k : Simple) (t : Text) → has_day t ≡ false → no_such_day k t ≡ false
without_day SI t e = refl
without_day NM t e = refl
without_day DTM t e = rw e
without_day TM t e = refl
without_day ST t e = refl
without_day TX t e = refl
without_day FT t e = refl
without_day ID t e = refl
without_day IS t e = refl

pub empty_day : (k : Simple) (t : Text) → length t ≡ 0 → no_such_day k t ≡ false
unfolding digits
empty_day k [] e = without_day k [] refl
empty_day k (b ∷ t) e = absurd (omega arith)
