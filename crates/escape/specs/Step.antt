-- Inner: no entry's promise is made of this.
-- One step through a text with escapes.
use Rattle.std.specs.Prelude.{ℕ, ◌<◌, ◌≡◌, Bool, not, ◌||◌, ◌∷◌, Option, None, Some, length, eqb}
use Rattle.std.specs.Borrow.{Bor}
use Rattle.text.specs.Bytes.{Text, pick, byte, empty}
use Rattle.text.specs.declared.marks.Marks.{Marks}
use Rattle.escape.specs.Escape.{bad_escape, resolved}

-- a byte other than that one
abbrev pub is_other : ℕ → ℕ → Bool
is_other mark b = not (eqb b mark)

-- the letter of one of the five
abbrev pub is_letter : ℕ → Bool
is_letter b =
    eqb b (byte "F") || (eqb b (byte "S") || (eqb b (byte "T") || (eqb b (byte "R") || eqb b (byte "E"))))

-- the separator that a letter means
abbrev pub meant : Marks → ℕ → ℕ
meant q b =
    pick (eqb b (byte "F")) q.field
    (pick (eqb b (byte "S")) q.component
    (pick (eqb b (byte "T")) q.subcomponent (pick (eqb b (byte "R")) q.repetition q.escape)))

-- a person reads b first of the text, and then what the rest resolves to
pub record Reads (q : Marks) (t : Text) (b : ℕ) (rest : Text) : Type 0 where
  pub shorter : length rest < length t
  pub bad : bad_escape q t ≡ bad_escape q rest
  pub reads : resolved q t ≡ b ∷ resolved q rest

-- what is told of the front of a text: none where there is nothing or a bad escape
abbrev pub ReadsFirst : Marks → Text → Option (ℕ × Bor Text) → Type 0
ReadsFirst q t None = bad_escape q t ≡ not (empty t)
ReadsFirst q t (Some r) = Reads q t r.0 r.1.now
