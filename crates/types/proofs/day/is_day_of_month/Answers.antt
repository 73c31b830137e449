-- `is_day_of_month`: year, month and day by their digits.
use mathlib.Core.Path.{sym}
use Prim.Native.Nat.{◌≤◌}
use native.Mathlib.Omega.{arith}
use lib.ListN.{length}
use Rattle.types.specs.Types.{digits}
use Rattle.types.proofs.DayLaws.{some_day, has_day_lem, has_no_day}
use Rattle.types.proofs.day.is_day_of_month.Goals as goal
use Rattle.types.proofs.day.is_day_of_month.Goals.{Else-not-is_digit}

pub returns-then-not-is_digit : goal.returns-then-not-is_digit
returns-then-not-is_digit c = sym (has_no_day c.args.t.now (rw (← c.is_digit.ensures, ← c.is_digit-2.ensures) c.if-not-is_digit.true))

-- a day is there
enough : (c : Else-not-is_digit) → 8 ≤ length (digits c.args.t.now)
enough c = has_day_lem c.args.t.now c.requires.0 c.requires.1 (rw (← c.is_digit.ensures, ← c.is_digit-2.ensures) c.if-not-is_digit.false)

pub two_at-requires-3 : goal.two_at-requires-3
two_at-requires-3 c = omega (arith, enough (goal.at.two_at-requires-3 c).Else-not-is_digit)

pub two_at-requires-4 : goal.two_at-requires-4
two_at-requires-4 c = omega (arith, enough (goal.at.two_at-requires-4 c).Else-not-is_digit)

pub returns : goal.returns
returns c =
    rw (some_day c.args.t.now (enough (goal.at.returns c).Else-not-is_digit), c.days_in.ensures, c.two_at-4.ensures.0, c.two_at-3.ensures.0, c.two_at-2.ensures.0, c.two_at.ensures.0)
