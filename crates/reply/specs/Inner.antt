-- Inner: no entry's promise is made of this.
-- What only inner functions promise and ask for.
use Rattle.std.specs.Prelude.{ℕ, ◌≡◌, length, Result}
use Rattle.text.specs.Bytes.{Text}
use Rattle.text.specs.Answer.{Answer, first, buffer_after, reported, written_of}
use Rattle.text.specs.declared.refusal.Refusal.{Refusal}
use Rattle.profile.specs.Profile.{profile01}
use Rattle.reply.specs.Reply.{reply_text, own_tests}

-- what is answered and left where the frame is good
abbrev pub own_reply : Text → Text → Text → ℕ → Answer Text
own_reply m stamp number room = first (own_tests profile01 m stamp number room) (reply_text profile01 m stamp number)

pub record Acknowledges (m stamp number before : Text) (r : Result ℕ Refusal) (after : Text) : Type 0 where
  pub answer : written_of r ≡ reported (own_reply m stamp number (length before))
  pub buffer : after ≡ buffer_after (own_reply m stamp number (length before)) before
