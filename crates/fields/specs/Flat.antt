-- Inner: no entry's promise is made of this.
-- What only the quick tests speak of: fields that have components at most, and what is told of one that breaks nothing.
use Rattle.std.specs.Prelude.{ℕ, Bool, true, false, not, ◌||◌, eqb, None}
use Rattle.text.specs.Bytes.{Text, every}
use Rattle.text.specs.declared.marks.Marks.{Marks}
use Rattle.leaves.specs.declared.repetition.ReadRepetition.{ReadRepetition}
use Rattle.fields.specs.declared.field.ReadField.{ReadField}

-- no separator takes the field apart but into components, and no escape is in it; this is told of such a field where it breaks nothing
abbrev pub is_plain : Marks → ℕ → Bool
is_plain q b = not (eqb b q.repetition || (eqb b q.subcomponent || eqb b q.escape))

abbrev pub is_flat : Marks → Text → Bool
is_flat q x = every (is_plain q) x

abbrev pub passed : ReadField
passed = record { surplus = false; filled = true; broken = None }

abbrev pub passed_once : ReadRepetition
passed_once = record { filled = true; broken = None }
