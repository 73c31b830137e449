-- An entry's promise is made of this.
-- What a reply promises.
use Rattle.std.specs.Prelude.{ℕ, ◌≡◌, length, Result}
use Rattle.text.specs.Bytes.{Text}
use Rattle.text.specs.Answer.{buffer_after, reported, written_of}
use Rattle.text.specs.declared.refusal.Refusal.{Refusal}
use Rattle.profile.specs.Table.{Table}
use Rattle.reply.specs.Reply.{reply}

-- THE REPLY to m, judged by a table, with that stamp and reply number, into a buffer that held `before`: the answer, and what the buffer holds afterwards
pub record Replies (T : Table) (m stamp number before : Text) (r : Result ℕ Refusal) (after : Text) : Type 0 where
  pub answer : written_of r ≡ reported (reply T m stamp number (length before))
  pub buffer : after ≡ buffer_after (reply T m stamp number (length before)) before
