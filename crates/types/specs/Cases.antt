-- No entry's promise is made of this: it tries the definitions.
-- Days: how many the months have, which years are leap years, and dates whose day exists or not.
use Rattle.std.specs.Prelude.{ℕ, ◌≤◌, ◌≡◌, Bool, true, not, ◌&&◌, List, [], ◌∷◌, map}
use Prim.Native.String.{String}
use Rattle.text.specs.Bytes.{Text, bytes, every}
use Rattle.types.specs.Types.{is_dtm, is_leap, days_in, day_of, day_exists, is_stamp}

-- THE TWELVE MONTHS, in a year that is no leap year and in one that is
abbrev pub months : List ℕ
months = 1 ∷ 2 ∷ 3 ∷ 4 ∷ 5 ∷ 6 ∷ 7 ∷ 8 ∷ 9 ∷ 10 ∷ 11 ∷ 12 ∷ []

abbrev pub TwelveMonths : Type 0
TwelveMonths =
    (map (days_in 2023) months ≡ 31 ∷ 28 ∷ 31 ∷ 30 ∷ 31 ∷ 30 ∷ 31 ∷ 31 ∷ 30 ∷ 31 ∷ 30 ∷ 31 ∷ [])
    × (map (days_in 2024) months ≡ 31 ∷ 29 ∷ 31 ∷ 30 ∷ 31 ∷ 30 ∷ 31 ∷ 31 ∷ 30 ∷ 31 ∷ 30 ∷ 31 ∷ [])

-- years that have a 29th of February, and years that have none
abbrev pub LeapYears : Type 0
LeapYears =
    (every is_leap (2024 ∷ 2000 ∷ 2400 ∷ 1996 ∷ 4 ∷ 0 ∷ []) ≡ true)
    × (every (λ (y : ℕ). not (is_leap y)) (2023 ∷ 2022 ∷ 2025 ∷ 1900 ∷ 2100 ∷ 2200 ∷ 2300 ∷ 100 ∷ 9999 ∷ []) ≡ true)

-- a text of the form whose day exists; one of the form whose day does not
abbrev pub good : String → Bool
good s = is_dtm (bytes s) && day_exists (bytes s)

abbrev pub no_such : String → Bool
no_such s = is_dtm (bytes s) && not (day_exists (bytes s))

-- 29 February in 1900, 2000, 2023, 2024 and 2100; the last days of months and the day after; with hours, seconds and zones after them; in the first years
-- that can be written; texts without a day, of which a zone's digits are none
abbrev pub Dates : Type 0
Dates =
    (every good ("20000229" ∷ "20240229" ∷ "20230228" ∷ "20240131" ∷ "20240430" ∷ "20241231" ∷ "00000229" ∷ "00040229" ∷ []) ≡ true)
    × ((every no_such ("19000229" ∷ "20230229" ∷ "21000229" ∷ "20240230" ∷ "20240231" ∷ "20240431" ∷ "20240631" ∷ "20240931" ∷ "20241131" ∷ "00010229" ∷ []) ≡ true)
    × ((every good ("2024022923" ∷ "20240229235959.9999-1459" ∷ "20240229+0100" ∷ []) ≡ true)
    × ((every no_such ("2023022900" ∷ "202302290000" ∷ "20230229000000" ∷ "20230229000000.1+0100" ∷ "20230229-0000" ∷ []) ≡ true)
    × (every good ("2023" ∷ "202302" ∷ "2023+0231" ∷ "202302-0231" ∷ "2023-1431" ∷ []) ≡ true))))

-- what is not of the form is told as that: its day is not asked
abbrev pub formless : String → Bool
formless s = not (is_dtm (bytes s))

abbrev pub NotOfTheForm : Type 0
NotOfTheForm = every formless ("20240232" ∷ "20240200" ∷ "20241301" ∷ "202402301" ∷ "2024023024" ∷ []) ≡ true

-- stamps
abbrev pub Stamps : Type 0
Stamps =
    (every (λ (s : String). is_stamp (bytes s)) ("20240229000000" ∷ "20231231235959" ∷ []) ≡ true)
    × (every (λ (s : String). not (is_stamp (bytes s))) ("20230229000000" ∷ "20240431101501" ∷ "19000229235959" ∷ []) ≡ true)

-- EVERY DAY UP TO THE 28TH exists, whatever the month and the year
abbrev pub EarlyDays : Type 0
EarlyDays = ((year month : ℕ) → 28 ≤ days_in year month) × ((t : Text) → day_of t ≤ 28 → day_exists t ≡ true)
