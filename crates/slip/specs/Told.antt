-- An entry's promise is made of this.
-- What each case of a filing's answer tells: 01's number, or that it is done.
use Rattle.std.specs.Prelude.{Result}
use Rattle.text.specs.Answer.{Answer, answer_of, tell}
use Rattle.text.specs.Bytes.{Text}
use Rattle.text.specs.declared.refusal.Refusal.{Refusal}

-- a filing reports no more than that the slip stands in its slot
abbrev pub done : Answer Text → Answer Unit
done a = tell (λ t. tt) a

abbrev pub filed_of : Result Unit Refusal → Answer Unit
filed_of r = answer_of (λ u. tt) r
