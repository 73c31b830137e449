-- Inner: no entry's promise is made of this.
-- The words of a line, and what reading the next one takes.
use Rattle.std.specs.Prelude.{ℕ, ◌≡◌, List, [], ◌∷◌, Option, Some, None}
use Rattle.std.specs.Borrow.{Bor}
use Rattle.text.specs.Bytes.{Text, byte}
use Rattle.parts.specs.Split.{split}
use Rattle.asked.specs.Asked.{asked}
use Rattle.words.specs.declared.Words.{Words}

-- THE WORDS OF A LINE: the pieces between its blanks, of which each may have no bytes
abbrev pub words_of : Text → List Text
words_of line = split (byte " ") line

-- those that have not been read
abbrev pub left_in : Option (Bor Text) → List Text
left_in None = []
left_in (Some rest) = words_of rest.now

abbrev pub words_left : Words → List Text
words_left w = left_in w.rest

-- A NUMBER READ: the one that the next word writes, if it writes one, and that word is read; none where no word is left
abbrev pub NumberRead : List Text → Option ℕ → List Text → Type 0
NumberRead [] r after = (r ≡ None) × (after ≡ [])
NumberRead (w ∷ ws) r after = (r ≡ asked w) × (after ≡ ws)
