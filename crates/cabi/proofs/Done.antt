-- A filing reports no more than that it is done, which is told by the same number.
use mathlib.Core.Path.{◌≡◌, refl}
use Rattle.text.specs.Bytes.{Text}
use Rattle.text.specs.Answer.{Answer, refused, given}
use Rattle.slip.specs.Told.{done}
use Rattle.numbers.specs.Told.{status}

pub status-done : (a : Answer Text) → status (done a) ≡ status a
status-done (refused x) = refl
status-done (given t) = refl
