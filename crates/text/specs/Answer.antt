-- An entry's promise is made of this.
-- The numbers a caller gets back. An answer is the first refusal that applies, or what was asked for.
use Rattle.std.specs.Prelude.{ℕ, Bool, true, false, List, [], ◌∷◌, ◌++◌, length, drop, Result, Ok, Err}
use Rattle.text.specs.Bytes.{Text, pick}
use Rattle.text.specs.declared.refusal.Refusal.{Refusal}
use Rattle.text.specs.declared.refusal.Refusal.TheVariants.{Empty, TooLong, BadByte, NoHeader, NoEnd, BadSegment, SecondHeader, TooMany, BadPlace, NoSegment, BadStamp, BadReplyNumber, NoControlNumber, NoRoom, NotAccepted, NoGroup, NoSlot, BadSlip, NoTag, BadEscape}

abbrev pub number_of : Refusal → ℕ
number_of Empty = 1
number_of TooLong = 2
number_of BadByte = 3
number_of NoHeader = 4
number_of NoEnd = 5
number_of BadSegment = 6
number_of SecondHeader = 7
number_of TooMany = 8
number_of BadPlace = 9
number_of NoSegment = 10
number_of BadStamp = 11
number_of BadReplyNumber = 12
number_of NoControlNumber = 13
number_of NoRoom = 14
number_of NotAccepted = 15
number_of NoGroup = 16
number_of NoSlot = 17
number_of BadSlip = 18
number_of NoTag = 19
number_of BadEscape = 20

pub data Answer (A : Type 0) : Type 0 where
  refused : Refusal → Answer A
  given : A → Answer A

-- a refusal, and whether it applies
pub record Test : Type 0 where
  pub refusal : Refusal
  pub applies : Bool

abbrev pub test : Refusal → Bool → Test
test r b = record { refusal = r; applies = b }

-- THE FIRST REFUSAL THAT APPLIES; where none does, what was asked for
unfoldable pub first : {A : Type 0} → List Test → A → Answer A
first [] a = given a
first (t ∷ ts) a = pick t.applies (refused t.refusal) (first ts a)

-- none of the refusals applies
unfoldable pub passes : List Test → Bool
passes [] = true
passes (t ∷ ts) = pick t.applies false (passes ts)

-- what a lent buffer holds afterwards: the bytes written stand first and the rest stays; a refusal writes nothing
abbrev pub buffer_after : Answer Text → Text → Text
buffer_after (refused r) buffer = buffer
buffer_after (given t) buffer = t ++ drop (length t) buffer

-- what is told of an answer
abbrev pub tell : {A B : Type 0} → (A → B) → Answer A → Answer B
tell f (refused r) = refused r
tell f (given a) = given (f a)

-- a call reports how many bytes were written
abbrev pub reported : Answer Text → Answer ℕ
reported a = tell length a

-- what the code's result tells, by what its value tells
abbrev pub answer_of : {A B : Type 0} → (A → B) → Result A Refusal → Answer B
answer_of f (Ok a) = given (f a)
answer_of f (Err r) = refused r

-- so many bytes written
abbrev pub written_of : Result ℕ Refusal → Answer ℕ
written_of r = answer_of (λ n. n) r
