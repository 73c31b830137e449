-- `day_exists`: too short for a day, a day up to the 28th, or by the month.
use mathlib.Core.Path.{sym}
use Rattle.types.proofs.DayLaws.{short_day, early_bytes}
use Rattle.types.proofs.day.day_exists.Goals as goal

pub returns-then-t-lt-DATE_SIZE : goal.returns-then-t-lt-DATE_SIZE
returns-then-t-lt-DATE_SIZE c = sym (short_day c.args.t.now c.if-t-lt-DATE_SIZE.true)

pub returns-then-t : goal.returns-then-t
returns-then-t c = sym (early_bytes c.args.t.now c.if-t.true)
