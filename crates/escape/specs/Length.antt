-- Inner: no entry's promise is made of this.
-- What is told of a text's length.
use Rattle.std.specs.Prelude.{ℕ, ◌≤◌, ◌≡◌, true, false, Option, None, Some, length}
use Rattle.text.specs.Bytes.{Text}
use Rattle.text.specs.declared.marks.Marks.{Marks}
use Rattle.escape.specs.Escape.{bad_escape, resolved}

-- THE LENGTH of the text that a person reads; none where there is a bad escape
abbrev pub Measures : Marks → Text → Option ℕ → Type 0
Measures q t None = bad_escape q t ≡ true
Measures q t (Some n) = (bad_escape q t ≡ false) × (n ≡ length (resolved q t))

-- no bad escape, and a person reads at most so many bytes
pub record Fits (q : Marks) (most : ℕ) (t : Text) : Type 0 where
  pub good : bad_escape q t ≡ false
  pub short : length (resolved q t) ≤ most
