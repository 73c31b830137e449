-- Inner: no entry's promise is made of this.
-- What only inner functions promise and ask for.
use Rattle.std.specs.Prelude.{ℕ, suc, ◌≡◌, ◌&&◌, List, [], ◌∷◌, Option, None, Some, length}
use Rattle.std.specs.Borrow.{Bor}
use Rattle.text.specs.Bytes.{Text, pick, digit}
use Rattle.text.specs.Ranges.{Range, ◌to◌, is_within}
use Rattle.types.specs.Types.{two}

-- ranges from pairs of low and high
unfoldable pub ranges_of : List (ℕ × ℕ) → List Range
ranges_of [] = []
ranges_of (r ∷ l) = r.0 to r.1 ∷ ranges_of l

-- how many bytes a text begins with that are digits two by two, each two within the next range
unfoldable pub twos_length : List Range → Text → ℕ
twos_length [] t = 0
twos_length (r ∷ rs) [] = 0
twos_length (r ∷ rs) (a ∷ []) = 0
twos_length (r ∷ rs) (a ∷ b ∷ t) = pick (digit a && digit b && is_within r (two a b)) (suc (suc (twos_length rs t))) 0

-- what follows two digits within a range, or none
abbrev pub BehindTwo : Range → Text → Option (Bor Text) → Type 0
BehindTwo r t None = (rs : List Range) → twos_length (r ∷ rs) t ≡ 0
BehindTwo r t (Some u) = (length t ≡ suc (suc (length u.now))) × ((rs : List Range) → twos_length (r ∷ rs) t ≡ suc (suc (twos_length rs u.now)))
