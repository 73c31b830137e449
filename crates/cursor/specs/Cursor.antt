-- Inner: no entry's promise is made of this.
-- What a cursor promises, which only inner functions ask for: it stands at a piece.
use Rattle.std.specs.Prelude.{ℕ, ◌+◌, ◌≤◌, ◌≡◌, length}
use Rattle.text.specs.Bytes.{Text}
use Rattle.parts.specs.Split.{split, piece}
use Rattle.parts.specs.Start.{start}
use Rattle.cursor.specs.declared.Cursor.{Cursor}

-- a cursor stands at the piece of its number
pub record IsPiece (sep : ℕ) (t : Text) (c : Cursor) : Type 0 where
  pub from : 1 ≤ c.number
  pub starts : c.start ≡ start sep c.number t
  pub ends : c.end ≡ c.start + length (piece c.number (split sep t))
