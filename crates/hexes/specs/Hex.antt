-- The desk's programs promise this.
-- A slip's bytes as they are printed: two hexadecimal digits each, sixteen bytes to a line.
use Rattle.std.specs.Prelude.{ℕ, suc, ◌+◌, ◌-◌, ◌/◌, ◌%◌, [], ◌∷◌, ◌++◌, eqb, ltb}
use Rattle.text.specs.Bytes.{Text, pick, byte}
use Rattle.text.specs.Answer.{Answer, refused, given}
use Rattle.line.specs.Line.{newline, as_line, refused_line}

abbrev pub hex_digit : ℕ → ℕ
hex_digit n = pick (ltb n 10) (byte "0" + n) (byte "A" + (n - 10))

-- what stands after the byte with i before it
abbrev pub behind : ℕ → ℕ
behind i = pick (eqb (i % 16) 15) newline (byte " ")

abbrev pub hex_byte : ℕ → ℕ → Text
hex_byte i b = hex_digit (b / 16) ∷ hex_digit (b % 16) ∷ behind i ∷ []

unfoldable pub hex_from : ℕ → Text → Text
hex_from i [] = []
hex_from i (b ∷ t) = hex_byte i b ++ hex_from (suc i) t

-- THE LINES
abbrev pub hex_lines : Text → Text
hex_lines t = hex_from 0 t

-- FILING as it is printed: the slip's lines, or the refusal
abbrev pub slip_lines : Answer Text → Text
slip_lines (refused r) = as_line (refused_line r)
slip_lines (given slip) = hex_lines slip
