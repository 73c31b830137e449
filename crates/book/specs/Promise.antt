-- An entry's promise is made of this.
-- What reading promises.
use Rattle.std.specs.Prelude.{ℕ, ◌≡◌}
use Rattle.std.specs.Borrow.{Bor}
use Rattle.text.specs.Bytes.{Text}
use Rattle.text.specs.Part.{VeryPart}
use Rattle.book.specs.declared.reading.SlipValue.{SlipValue}
use Rattle.book.specs.Read.{read_slip}
use Rattle.book.specs.Told.{value_of, start_of, end_of}

-- READING a tag of slot k of the lent book: the sort is the definition's answer, and the value is that very part of the book
pub record ReadsSlip (book : Bor Text) (k tag : ℕ) (r : SlipValue) : Type 0 where
  pub sort : value_of r.sort ≡ read_slip book.now k tag
  pub value : VeryPart r.value book (start_of r.sort) (end_of r.sort)
