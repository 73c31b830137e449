-- Inner: no entry's promise is made of this.
-- Where a piece starts and ends, as the code counts it: byte by byte from the left, also where there is no such piece.
use Rattle.std.specs.Prelude.{ℕ, zero, suc, eqb, [], ◌∷◌}
use Rattle.text.specs.Bytes.{Text, pick}

-- how many bytes stand before the first separator; all of them where there is none
unfoldable pub reach : ℕ → Text → ℕ
reach sep [] = 0
reach sep (b ∷ t) = pick (eqb b sep) 0 (suc (reach sep t))

-- how many bytes stand before the piece that has i pieces before it; all of them where there is no such piece
unfoldable pub before : ℕ → Text → ℕ → ℕ
before sep [] i = 0
before sep (b ∷ t) zero = 0
before sep (b ∷ t) (suc i) = suc (before sep t (pick (eqb b sep) i (suc i)))

-- where piece number n of a text starts
abbrev pub start : ℕ → ℕ → Text → ℕ
start sep zero t = 0
start sep (suc i) t = before sep t i
