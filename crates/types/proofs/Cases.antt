-- The months, the leap years and the dates are as they should be, by computation; that the early days exist by the laws of days.
use mathlib.Core.Path.{refl}
use Rattle.text.specs.Bytes.{every, some}
use Rattle.types.specs.Types.{digits, rest, twos}
use Rattle.types.specs.Cases.{TwelveMonths, LeapYears, Dates, NotOfTheForm, Stamps, EarlyDays}
use Rattle.types.proofs.DayLaws.{month_long, early_day}

pub twelve_months : TwelveMonths
unfolding some
twelve_months = (refl, refl)

pub leap_years : LeapYears
unfolding every
leap_years = (refl, refl)

pub dates : Dates
unfolding every some digits rest twos
dates = (refl, (refl, (refl, (refl, refl))))

pub not_of_the_form : NotOfTheForm
unfolding every digits rest twos
not_of_the_form = refl

pub stamps : Stamps
unfolding every some digits rest twos
stamps = (refl, refl)

pub early_days : EarlyDays
early_days = (month_long, early_day)
