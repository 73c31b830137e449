-- The desk's programs promise this.
-- A number as a program is asked for it: digits, from the left.
use Rattle.std.specs.Prelude.{ℕ, ◌+◌, ◌*◌, ◌-◌, min, ◌||◌, not, [], ◌∷◌, Option, None, Some}
use Rattle.text.specs.Bytes.{Text, pick, byte, digit, empty, every}

-- the largest number of 64 bits
abbrev pub most : ℕ
most = 18446744073709551615

-- the number that digits write after those that wrote n
unfoldable pub value_from : ℕ → Text → ℕ
value_from n [] = n
value_from n (b ∷ t) = value_from (n * 10 + (b - byte "0")) t

-- A NUMBER THAT FITS: one that does not is given as the largest
abbrev pub fitting : ℕ → ℕ
fitting n = min most n

-- none where it is empty or not all digits; else the number, or the largest where it does not fit
unfoldable pub asked : Text → Option ℕ
asked t = pick (empty t || not (every digit t)) None (Some (fitting (value_from 0 t)))
