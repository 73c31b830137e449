-- Inner: no entry's promise is made of this.
-- What the answers of this room tell.
use Rattle.std.specs.Prelude.{Result}
use Rattle.text.specs.Answer.{Answer, answer_of}
use Rattle.text.specs.declared.refusal.Refusal.{Refusal}

-- the frame checks: a refusal, or a good frame
abbrev pub framing_of : Result Unit Refusal → Answer Unit
framing_of r = answer_of (λ u. tt) r
