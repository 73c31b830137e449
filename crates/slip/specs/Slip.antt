-- An entry's promise is made of this.
-- The slip of a group: its exact bytes.
use Rattle.std.specs.Prelude.{ℕ, List, [], ◌∷◌}
use Rattle.text.specs.Bytes.{Text, bytes}
use Rattle.text.specs.Marks.{marks_of}
use Rattle.escape.specs.Escape.{resolved}
use Rattle.reader.specs.Place.{place, text_at}
use Rattle.slot.specs.Slot.{Tagged, tagged, two_bytes, slip_of}
use Rattle.reader.specs.Observations.{observations_of}

-- component 1 of a field of a segment, resolved
abbrev pub resolved_at : Text → Text → ℕ → ℕ → Text
resolved_at m n o f = resolved (marks_of m) (text_at m (place n o f 1 1 1))

-- THE VALUES of group g's slip, tags rising
abbrev pub slip_values : Text → ℕ → List Tagged
slip_values m g =
    tagged 1 (resolved_at m (bytes "MSH") 1 10)
    ∷ tagged 2 (resolved_at m (bytes "PID") 1 3)
    ∷ tagged 3 (resolved_at m (bytes "OBR") g 2)
    ∷ tagged 4 (resolved_at m (bytes "OBR") g 3)
    ∷ tagged 5 (resolved_at m (bytes "OBR") g 4)
    ∷ tagged 6 (two_bytes (observations_of m g))
    ∷ []

-- THE SLIP of group g
unfoldable pub slip_text : Text → ℕ → Text
slip_text m g = slip_of (slip_values m g)
