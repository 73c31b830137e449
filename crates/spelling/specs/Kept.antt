-- Inner: no entry's promise is made of this.
-- What a writer keeps, whatever had room.
use Rattle.std.specs.Prelude.{◌≡◌, length}
use Rattle.text.specs.declared.writer.Writer.{Writer}

-- THE SAME BUFFER, as long as before
pub record KeepsBuffer (before after : Writer) : Type 0 where
  pub same : after.out.ghost_name ≡ before.out.ghost_name
  pub long : length after.out.now ≡ length before.out.now
