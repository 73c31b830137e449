-- Inner: no entry's promise is made of this.
-- What only inner functions promise and ask for.
use Rattle.std.specs.Prelude.{ℕ, ◌≤◌, ◌≡◌, Some, Result}
use Rattle.text.specs.Bytes.{Text, bytes}
use Rattle.text.specs.Answer.{Answer, first}
use Rattle.text.specs.declared.refusal.Refusal.{Refusal}
use Rattle.text.specs.declared.span.Span.{Span}
use Rattle.reader.specs.Copied.{standing}
use Rattle.slip.specs.Slip.{slip_text}
use Rattle.slip.specs.Book.{own_tests, book_after}
use Rattle.slip.specs.Told.{done, filed_of}

-- the OBR of group g stands there
abbrev pub IsOrder : Text → ℕ → Span → Type 0
IsOrder m g s = (1 ≤ g) × (Some s ≡ standing m (bytes "OBR") g)

-- filing a group of an accepted message
abbrev pub own_filing : Text → ℕ → ℕ → Text → Answer Text
own_filing m g k book = first (own_tests m g k book) (slip_text m g)

pub record FilesOwn (m : Text) (g k : ℕ) (before : Text) (r : Result Unit Refusal) (after : Text) : Type 0 where
  pub answer : filed_of r ≡ done (own_filing m g k before)
  pub book : after ≡ book_after (own_filing m g k before) k before
