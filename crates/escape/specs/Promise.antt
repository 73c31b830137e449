-- An entry's promise is made of this.
-- What resolving promises.
use Rattle.std.specs.Prelude.{ℕ, ◌≡◌, Result, length}
use Rattle.text.specs.Bytes.{Text}
use Rattle.text.specs.Answer.{buffer_after, reported, written_of}
use Rattle.text.specs.Marks.{usual}
use Rattle.escape.specs.Escape.{resolve}
use Rattle.text.specs.declared.refusal.Refusal.{Refusal}

-- RESOLVING t into a buffer that held `before`: the answer, and what the buffer holds afterwards
pub record Resolves (t before : Text) (r : Result ℕ Refusal) (after : Text) : Type 0 where
  pub answer : written_of r ≡ reported (resolve usual t (length before))
  pub buffer : after ≡ buffer_after (resolve usual t (length before)) before
