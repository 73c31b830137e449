-- An entry's promise is made of this.
-- What each case of a reading's answer tells: 01's number and values.
use Rattle.std.specs.Prelude.{ℕ, Result, Ok, Err}
use Rattle.text.specs.Answer.{Answer, answer_of}
use Rattle.text.specs.declared.refusal.Refusal.{Refusal}
use Rattle.text.specs.declared.span.Span.{Span}
use Rattle.book.specs.Read.{Part}

abbrev pub value_of : Result Span Refusal → Answer Part
value_of r = answer_of (λ s. record { start = s.start; end = s.end }) r

-- the part that an answer names: of a refusal, no bytes at the book's start
abbrev pub start_of : Result Span Refusal → ℕ
start_of (Ok s) = s.start
start_of (Err r) = 0

abbrev pub end_of : Result Span Refusal → ℕ
end_of (Ok s) = s.end
end_of (Err r) = 0
