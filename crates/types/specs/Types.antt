-- An entry's promise is made of this.
-- What a text of a simple type looks like, which days there are, and what a stamp and a reply number are.
use Rattle.std.specs.Prelude.{ℕ, ◌+◌, ◌*◌, ◌-◌, ◌%◌, Bool, true, false, not, ◌&&◌, ◌||◌, List, [], ◌∷◌, length, get_or, drop, eqb, leb}
use Rattle.text.specs.Ranges.{Range, ◌to◌, is_within}
use Rattle.text.specs.Bytes.{Text, pick, byte, digit, capital_or_digit, empty, every, some}

-- the digits that a text begins with, and what follows them
unfoldable pub digits : Text → Text
digits [] = []
digits (b ∷ t) = pick (digit b) (b ∷ digits t) []

unfoldable pub rest : Text → Text
rest [] = []
rest (b ∷ t) = pick (digit b) (rest t) (b ∷ t)

abbrev pub begins : (ℕ → Bool) → Text → Bool
begins p [] = false
begins p (b ∷ t) = p b

abbrev pub sign : ℕ → Bool
sign b = eqb b (byte "+") || eqb b (byte "-")

abbrev pub point : ℕ → Bool
point b = eqb b (byte ".")

-- SI: digits
abbrev pub is_si : Text → Bool
is_si t = every digit t

-- what stands after the point that a text begins with: no bytes where it begins with none
abbrev pub behind_point : Text → Text
behind_point t = pick (begins point t) (drop 1 t) []

-- a point and at least one digit, to the end
abbrev pub is_decimals : Text → Bool
is_decimals t = begins digit (behind_point t) && every digit (behind_point t)

-- at least one digit, then nothing, or the decimals
abbrev pub is_unsigned : Text → Bool
is_unsigned t = begins digit t && (empty (rest t) || is_decimals (rest t))

-- NM: a sign or none, digits, and perhaps a point and digits
abbrev pub is_nm : Text → Bool
is_nm t = is_unsigned (pick (begins sign t) (drop 1 t) t)

-- the number that two digits write
abbrev pub two : ℕ → ℕ → ℕ
two a b = (a - byte "0") * 10 + (b - byte "0")

-- digits two by two, each two within the next range, for as long as there are digits
unfoldable pub twos : List Range → Text → Bool
twos [] [] = true
twos [] (a ∷ t) = false
twos (r ∷ rs) [] = true
twos (r ∷ rs) (a ∷ []) = false
twos (r ∷ rs) (a ∷ b ∷ t) = is_within r (two a b) && twos rs t

-- hour, minute, second; month and day before them; the hour and minute of a zone
abbrev pub clock : List Range
clock = 0 to 23 ∷ 0 to 59 ∷ 0 to 59 ∷ []

abbrev pub calendar : List Range
calendar = 1 to 12 ∷ 1 to 31 ∷ clock

abbrev pub zone : List Range
zone = 0 to 14 ∷ 0 to 59 ∷ []

-- nothing, or a sign and HHMM
abbrev pub is_zone : Text → Bool
is_zone t = empty t || (begins sign t && eqb (length t) 5 && every digit (drop 1 t) && twos zone (drop 1 t))

-- a point, one to four digits, and the zone
abbrev pub is_fraction : Text → Bool
is_fraction t = is_within (1 to 4) (length (digits (behind_point t))) && is_zone (rest (behind_point t))

-- DTM: YYYY[MM[DD[HH[MM[SS[.S[S[S[S]]]]]]]]] and the zone
abbrev pub is_dtm : Text → Bool
is_dtm t =
    leb 4 (length (digits t))
    && twos calendar (drop 4 (digits t))
    && (is_zone (rest t) || (eqb (length (digits t)) 14 && is_fraction (rest t)))

-- TM: HH[MM[SS[.S[S[S[S]]]]]] and the zone
abbrev pub is_tm : Text → Bool
is_tm t =
    leb 2 (length (digits t))
    && twos clock (digits t)
    && (is_zone (rest t) || (eqb (length (digits t)) 6 && is_fraction (rest t)))

-- LEAP YEARS: every fourth year, not the hundredth, but the four-hundredth
abbrev pub is_every : ℕ → ℕ → Bool
is_every n year = eqb (year % n) 0

abbrev pub is_leap : ℕ → Bool
is_leap year = is_every 4 year && (not (is_every 100 year) || is_every 400 year)

-- THE DAYS OF A MONTH: February has 28, in a leap year 29; April, June, September and November have 30; the others have 31
abbrev pub days_in : ℕ → ℕ → ℕ
days_in year month = pick (eqb month 2) (pick (is_leap year) 29 28) (pick (some (eqb month) (4 ∷ 6 ∷ 9 ∷ 11 ∷ [])) 30 31)

-- the number that two digits of a text write, the first of them so many bytes from the start; year, month and day: YYYYMMDD
abbrev pub two_at : ℕ → Text → ℕ
two_at i t = two (get_or t i 0) (get_or t (i + 1) 0)

abbrev pub year_of : Text → ℕ
year_of t = two_at 0 t * 100 + two_at 2 t

abbrev pub month_of : Text → ℕ
month_of t = two_at 4 t

abbrev pub day_of : Text → ℕ
day_of t = two_at 6 t

-- a DTM has a day where its digits go on after the month: YYYYMMDD, eight at least
abbrev pub has_day : Text → Bool
has_day t = leb 8 (length (digits t))

-- THE DAY EXISTS: a DTM's month has its day, if it has one. (A day 00 is not of the form)
abbrev pub day_exists : Text → Bool
day_exists t = not (has_day t) || leb (day_of t) (days_in (year_of t) (month_of t))

-- how many digits a stamp has, and the greatest length of a reply number
abbrev pub stamp_size : ℕ
stamp_size = 14

abbrev pub most_reply_number : ℕ
most_reply_number = 20

-- a stamp: 14 digits that form a DTM, and its day exists
abbrev pub is_stamp : Text → Bool
is_stamp t = eqb (length t) stamp_size && every digit t && is_dtm t && day_exists t

-- a reply number: 1 to 20 capitals or digits
abbrev pub is_reply_number : Text → Bool
is_reply_number t = is_within (1 to most_reply_number) (length t) && every capital_or_digit t
