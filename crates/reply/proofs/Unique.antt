-- What a reply promises leaves one answer and one buffer.
use mathlib.Core.Path.{◌≡◌, sym, ◌∙◌}
use Rattle.text.specs.Bytes.{Text}
use Prim.Native.Nat.{ℕ}
use Rattle.std.proofs.Common.{Result}
use Rattle.text.specs.declared.refusal.Refusal.{Refusal}
use Rattle.profile.specs.Table.{Table}
use Rattle.escape.proofs.Unique.{written_same}
use Rattle.reply.specs.Promise.{Replies}

pub reply_unique : (T : Table) (m stamp number before : Text) (r r' : Result ℕ Refusal) (after after' : Text)
    → Replies T m stamp number before r after → Replies T m stamp number before r' after' → (r ≡ r') × (after ≡ after')
reply_unique T m stamp number before r r' after after' p p' =
    (written_same r r' (p.answer ∙ sym p'.answer), p.buffer ∙ sym p'.buffer)
