-- Inner: no entry's promise is made of this.
-- What only inner functions promise and ask for.
use Rattle.std.specs.Prelude.{ℕ, ◌+◌, ◌≤◌, ◌≡◌, length}
use Rattle.text.specs.Bytes.{Text}
use Rattle.text.specs.Answer.{Answer, first}
use Rattle.slip.specs.Slot.{slot_size}
use Rattle.book.specs.Read.{expected, Part, value_from, or_nothing, slip_tests}

-- the largest number of 64 bits
abbrev pub largest : ℕ
largest = 18446744073709551615

-- s is as long as a slot, and can begin at `base` of a book: 64 bits hold where it ends
pub record InBook (s : Text) (base : ℕ) : Type 0 where
  pub size : length s ≡ slot_size
  pub fits : base + slot_size ≤ largest

-- reading a tag of a slip that begins at `base` of the book
abbrev pub read_in : Text → ℕ → ℕ → Answer Part
read_in s base tag = first (slip_tests s base tag) (or_nothing (value_from expected tag base s))
