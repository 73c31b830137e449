-- An entry's promise is made of this.
-- The observations of a group: its OBX count.
use Rattle.std.specs.Prelude.{ℕ, zero, suc, List, [], ◌∷◌}
use Rattle.text.specs.Bytes.{Text, pick, bytes}
use Rattle.frame.specs.Segments.{segments, named}

-- how many OBX stand before the next OBR
unfoldable pub observations : List Text → ℕ
observations [] = 0
observations (s ∷ ss) =
    pick (named (bytes "OBR") s) 0 (pick (named (bytes "OBX") s) (suc (observations ss)) (observations ss))

-- the count of the group that begins at the OBR with i of them before it
unfoldable pub observations_from : List Text → ℕ → ℕ
observations_from [] i = 0
observations_from (s ∷ ss) zero = pick (named (bytes "OBR") s) (observations ss) (observations_from ss zero)
observations_from (s ∷ ss) (suc i) = observations_from ss (pick (named (bytes "OBR") s) i (suc i))

-- a group runs from its OBR to the next OBR; groups are numbered from 1
abbrev pub observations_of : Text → ℕ → ℕ
observations_of m zero = 0
observations_of m (suc i) = observations_from (segments m) i
