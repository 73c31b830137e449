-- An entry's promise is made of this.
-- What stands at a place: Empty, or Text with its start and end.
use Rattle.std.specs.Prelude.{ℕ, ◌+◌, length}
use Rattle.text.specs.Bytes.{Text, pick, empty}

pub data Found : Type 0 where
  Empty : Found
  text_from_to : ℕ → ℕ → Found

-- a text that starts at k: absent and zero-length are both Empty
abbrev pub shown : ℕ → Text → Found
shown k t = pick (empty t) Empty (text_from_to k (k + length t))
