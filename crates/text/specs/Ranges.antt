-- An entry's promise is made of this.
-- Ranges of numbers.
use Rattle.std.specs.Prelude.{ℕ, Bool, ◌&&◌, leb}

pub record Range : Type 0 where
  pub low : ℕ
  pub high : ℕ

abbrev pub ◌to◌ : ℕ → ℕ → Range
◌to◌ a b = record { low = a; high = b }

infix 80 ◌to◌
abbrev pub is_within : Range → ℕ → Bool
is_within r n = leb r.low n && leb n r.high
