-- An entry's promise is made of this.
-- What filing promises.
use Rattle.std.specs.Prelude.{ℕ, ◌≡◌, Result}
use Rattle.text.specs.Bytes.{Text}
use Rattle.profile.specs.Table.{Table}
use Rattle.text.specs.declared.refusal.Refusal.{Refusal}
use Rattle.slip.specs.Book.{file, book_after}
use Rattle.slip.specs.Told.{done, filed_of}

-- FILING group g of m, judged by a table, in slot k of a book that held `before`: the answer, and what the book holds afterwards
pub record Files (T : Table) (m : Text) (g k : ℕ) (before : Text) (r : Result Unit Refusal) (after : Text) : Type 0 where
  pub answer : filed_of r ≡ done (file T m g k before)
  pub book : after ≡ book_after (file T m g k before) k before
