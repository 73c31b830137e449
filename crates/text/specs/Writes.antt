-- Inner: no entry's promise is made of this.
-- What a writer leaves that puts a text.
use Rattle.std.specs.Prelude.{◌≡◌}
use Rattle.text.specs.Bytes.{Text}
use Rattle.text.specs.Puts.{Puts}
use Rattle.text.specs.declared.writer.Writer.{Writer}

-- THE TEXT IS PUT where the writer stood, it stands behind the text, and holds the same buffer
pub record Writes (before : Writer) (t : Text) (after : Writer) : Type 0 where
  pub same : after.out.ghost_name ≡ before.out.ghost_name
  pub puts : Puts before.out.now before.at t after.out.now after.at
