-- Inner: no entry's promise is made of this.
-- What only inner functions promise of listed segments: where one stands, how many of its name stand before it, and which is next.
use Rattle.std.specs.Prelude.{ℕ, ◌+◌, ◌-◌, ◌≤◌, ◌<◌, ◌≡◌, [], ◌∷◌, map, length, get_or, take, drop, Option, Some, None}
use Rattle.text.specs.Bytes.{Text, cr, within}
use Rattle.parts.specs.Start.{reach}
use Rattle.frame.specs.Segments.{segments, name}
use Rattle.profile.specs.Table.{Table}
use Rattle.profile.specs.Numbers.{segment_number}
use Rattle.listing.specs.declared.Listed.{Listed}
use Rattle.checks.specs.View.{listed_segments}
use Rattle.checks.specs.Fault.{count}

-- the name that stands at a place of a message
abbrev pub name_at : Text → ℕ → Text
name_at m at = take 3 (drop at m)

-- how many segments from a place on have a name, and how many before it
abbrev pub count_from : Text → ℕ → Text → ℕ
count_from m at n = count n (map name (segments (drop at m)))

abbrev pub count_before : Text → ℕ → Text → ℕ
count_before m at n = count_from m 0 n - count_from m at n

-- a segment starts there: after a CR, or at the message's start, as if a CR stood before it
abbrev pub Opens : Text → ℕ → Type 0
Opens m at = get_or (cr ∷ m) at 0 ≡ cr

-- the segment has the name of that number
abbrev pub HasNumber : Text → ℕ → Type 0
HasNumber s k = (segment_number (name s) ≡ k) × (1 ≤ k)

-- A SEGMENT STANDS THERE, and its name has number k
pub record Here (m : Text) (start end k : ℕ) : Type 0 where
  pub opens : Opens m start
  pub ends : end ≡ start + reach cr (drop start m)
  pub high : end < length m
  pub number : HasNumber (within start end m) k

-- THE NEXT LISTED SEGMENT from a place on: those passed over have no listed name
pub record Next (T : Table) (m : Text) (at start end k : ℕ) : Type 0 where
  pub low : at ≤ start
  pub here : Here m start end k
  pub first : listed_segments T (drop at m) ≡ within start end m ∷ listed_segments T (drop (end + 1) m)
  pub counts : (n : Text) → 1 ≤ segment_number n → count_from m at n ≡ count_from m start n

abbrev pub NextIs : Table → Text → ℕ → Option Listed → Type 0
NextIs T m at None = listed_segments T (drop at m) ≡ []
NextIs T m at (Some l) = Next T m at l.start l.end l.number
