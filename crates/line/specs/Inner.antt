-- Inner: no entry's promise is made of this.
-- What only inner functions promise and ask for.
use Rattle.std.specs.Prelude.{ℕ, ◌+◌, ◌≤◌, ◌≡◌, length}
use Rattle.text.specs.Bytes.{Text}
use Rattle.text.specs.declared.writer.Writer.{Writer}
use Rattle.text.specs.Writes.{Writes}

-- the bytes that a program lends for a line that tells a refusal or a look-up, and for one that tells a verdict
abbrev pub look_buffer : ℕ
look_buffer = 64

abbrev pub desk_buffer : ℕ
desk_buffer = 192

-- a number with the blank before it, and a place's words with theirs, take at most so many
abbrev pub number_size : ℕ
number_size = 21

abbrev pub place_size : ℕ
place_size = 109

-- the text is put where the writer stood, and takes at most so many bytes
pub record WritesWithin (size : ℕ) (before : Writer) (t : Text) (after : Writer) : Type 0 where
  pub writes : Writes before t after
  pub short : after.at ≤ before.at + size
  pub stays : length after.out.now ≡ length before.out.now
