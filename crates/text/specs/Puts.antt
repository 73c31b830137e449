-- Inner: no entry's promise is made of this.
-- What a lent buffer holds when a text is written into it at a place.
use Rattle.std.specs.Prelude.{ℕ, ◌+◌, ◌≤◌, ◌≡◌, ◌++◌, length, take, drop}
use Rattle.text.specs.Bytes.{Text}

-- THE TEXT STANDS AT THE PLACE, there was room for it, what stood before and after it stays, and r is where it ends
pub record Puts (before : Text) (at : ℕ) (t : Text) (after : Text) (r : ℕ) : Type 0 where
  pub room : at + length t ≤ length before
  pub holds : after ≡ take at before ++ t ++ drop (at + length t) before
  pub ends : r ≡ at + length t
