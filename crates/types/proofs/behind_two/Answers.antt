-- `behind_two`: too few bytes, no digits, or a number in the range or out of it.
use Rattle.std.proofs.Common.{refl, false}
use Rattle.types.proofs.TwosLaws.{no_two_few, no_two, one_two}
use Rattle.types.proofs.behind_two.Goals as goal

pub returns-in_default : goal.returns-in_default
returns-in_default c = no_two_few _ _ c.in_default.len_below

pub returns-then-not-is_digit : goal.returns-then-not-is_digit
returns-then-not-is_digit c = no_two _ _ _ _ _ c.is_digit.ensures c.is_digit-2.ensures refl (rw c.if-not-is_digit.true refl)

pub returns-then-range-n : goal.returns-then-range-n
returns-then-range-n c =
    one_two _ _ _ _ _ c.in-len2-up.len_at_least c.is_digit.ensures c.is_digit-2.ensures c.if-not-is_digit.false c.if-range-n.true refl

pub returns-else-range-n : goal.returns-else-range-n
returns-else-range-n c = no_two _ _ _ _ false c.is_digit.ensures c.is_digit-2.ensures c.if-range-n.false (rw c.if-not-is_digit.false refl)
