-- An entry's promise is made of this.
-- The fields of a slip, and the slot that they fill: their exact bytes. Which slots a book has.
use Rattle.std.specs.Prelude.{ℕ, ◌*◌, ◌/◌, ◌%◌, ◌-◌, Bool, length, replicate, leb}
use mathlib.Core.List.{List, [], ◌∷◌, ◌++◌, flat_map}
use Rattle.text.specs.Bytes.{Text, pick, empty}

-- two bytes, high byte first
abbrev pub two_bytes : ℕ → Text
two_bytes n = (n / 256 % 256) ∷ (n % 256) ∷ []

-- a field of a slip
pub record Tagged : Type 0 where
  pub tag : ℕ
  pub value : Text

abbrev pub tagged : ℕ → Text → Tagged
tagged k t = record { tag = k; value = t }

-- the tag, the length and the value; an Empty value is left out
abbrev pub tag_bytes : Tagged → Text
tag_bytes f = pick (empty f.value) [] (f.tag ∷ (two_bytes (length f.value) ++ f.value))

abbrev pub slot_size : ℕ
slot_size = 1024

-- where slot k of a book begins
abbrev pub slot_start : ℕ → ℕ
slot_start k = slot_size * k

-- slot k, from 0, isn't below the book's length divided by 1,024, rounded down
abbrev pub no_slot : Text → ℕ → Bool
no_slot book k = leb (length book / slot_size) k

-- the fields one after another, and zeros to the end of the slot
unfoldable pub slip_of : List Tagged → Text
slip_of fs = let t = flat_map tag_bytes fs in t ++ replicate (slot_size - length t) 0
