-- An entry's promise is made of this.
-- What the exported functions promise. Each returns r; out are the numbers that it was lent, out' what they are afterwards.
use Rattle.std.specs.Prelude.{ℕ, ◌≡◌, List, length}
use Rattle.text.specs.Bytes.{Text}
use Rattle.text.specs.Answer.{Answer, buffer_after, reported}
use Rattle.text.specs.Marks.{usual}
use Rattle.escape.specs.Escape.{resolve}
use Rattle.profile.specs.Table.{Table}
use Rattle.reader.specs.LookUp.{look_up}
use Rattle.reader.specs.Fault.{judge}
use Rattle.reply.specs.Reply.{reply}
use Rattle.slip.specs.Book.{file, book_after}
use Rattle.book.specs.Read.{read_slip}
use Rattle.numbers.specs.Told.{status, Tells, verdict_numbers, found_numbers, place_asked, size_numbers, part_numbers}

-- JUDGING m by a table: ten numbers
abbrev pub JudgeTells : Table → Text → List ℕ → ℕ → List ℕ → Type 0
JudgeTells T m out r out' = Tells verdict_numbers (judge T m) out r out'

-- LOOKING UP a name and five numbers in m: three numbers
abbrev pub LookUpTells : Text → Text → List ℕ → List ℕ → ℕ → List ℕ → Type 0
LookUpTells m name n out r out' = Tells found_numbers (look_up m (place_asked name n)) out r out'

-- A TEXT WRITTEN into a buffer that held `before`: one number tells how many bytes
pub record WriteTells (a : Answer Text) (before : Text) (out : List ℕ) (r : ℕ) (after : Text) (out' : List ℕ) : Type 0 where
  pub told : Tells size_numbers (reported a) out r out'
  pub buffer : after ≡ buffer_after a before

-- RESOLVING a text into a buffer
abbrev pub ResolveTells : Text → Text → List ℕ → ℕ → Text → List ℕ → Type 0
ResolveTells t before out r after out' = WriteTells (resolve usual t (length before)) before out r after out'

-- THE REPLY to m, judged by a table, into a buffer
abbrev pub ReplyTells : Table → Text → Text → Text → Text → List ℕ → ℕ → Text → List ℕ → Type 0
ReplyTells T m stamp number before out r after out' =
    WriteTells (reply T m stamp number (length before)) before out r after out'

-- FILING group g of m, judged by a table, in slot k of a book that held `before`: the number returned is all that is told
pub record FileTells (T : Table) (m : Text) (g k : ℕ) (before : Text) (r : ℕ) (after : Text) : Type 0 where
  pub returned : r ≡ status (file T m g k before)
  pub book : after ≡ book_after (file T m g k before) k before

-- READING a tag of slot k of a book: two numbers
abbrev pub ReadTells : Text → ℕ → ℕ → List ℕ → ℕ → List ℕ → Type 0
ReadTells book k tag out r out' = Tells part_numbers (read_slip book k tag) out r out'
