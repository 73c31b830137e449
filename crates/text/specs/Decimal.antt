-- An entry's promise is made of this.
-- A number in digits.
use Rattle.std.specs.Prelude.{ℕ, zero, suc, ◌+◌, ◌/◌, ◌%◌, [], ◌∷◌, ltb}
use Rattle.text.specs.Bytes.{Text, pick, byte}

-- a number's digits before those that are written already, at most so many of them
unfoldable pub digits_before : ℕ → ℕ → Text → Text
digits_before zero n t = t
digits_before (suc k) n t =
    let d = (byte "0" + n % 10) ∷ t in
    pick (ltb n 10) d (digits_before k (n / 10) d)

-- a number in digits without leading zeros: of 64 bits it has at most 20
abbrev pub decimal : ℕ → Text
decimal n = digits_before 20 n []
