-- What the frame checks promise leaves one answer.
use mathlib.Core.Path.{◌≡◌, refl, sym, ◌∙◌}
use Rattle.std.proofs.Common.{Result, Ok, Err}
use Rattle.text.specs.Bytes.{Text}
use Rattle.text.specs.Answer.{first}
use Rattle.text.specs.declared.refusal.Refusal.{Refusal}
use Rattle.frame.specs.Frame.{frame_tests}
use Rattle.frame.specs.Told.{framing_of}

-- an answer is what is told of it
pub framing_same : (a b : Result Unit Refusal) → framing_of a ≡ framing_of b → a ≡ b
framing_same (Err r) (Err s) e = cc
framing_same (Err r) (Ok u) e = cc
framing_same (Ok u) (Err s) e = cc
framing_same (Ok u) (Ok v) e = refl

pub check_unique : (m : Text) (a b : Result Unit Refusal) → framing_of a ≡ first (frame_tests m) (tt {0}) → framing_of b ≡ first (frame_tests m) (tt {0}) → a ≡ b
check_unique m a b e f = framing_same a b (e ∙ sym f)
