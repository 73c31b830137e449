-- Inner: no entry's promise is made of this.
-- Where the window on the input stands in its memory.
use Rattle.std.specs.Prelude.{ℕ, ◌≤◌}
use Rattle.input.specs.declared.Window.{Window}

-- what is not answered yet lies in the n bytes of memory, and what is seen of it lies in it
pub record Inside (w : Window) (n : ℕ) : Type 0 where
  pub begun : w.from ≤ w.seen
  pub known : w.seen ≤ w.to
  pub room : w.to ≤ n
