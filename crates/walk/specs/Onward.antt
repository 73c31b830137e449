-- Inner: no entry's promise is made of this.
-- What only the readers' helper promises: what reading a segment leads to.
use Rattle.std.specs.Prelude.{ℕ, ◌<◌, ◌≡◌, true, List, ◌∷◌, Option, None, Some, Result, Ok, Err}
use Rattle.text.specs.Bytes.{Text, within}
use Rattle.frame.specs.Segments.{name}
use Rattle.profile.specs.Table.{Table, may_follow}
use Rattle.walk.specs.declared.Halt.{Halt}
use Rattle.listing.specs.declared.Listed.{Listed}
use Rattle.listing.specs.Listing.{Here}
use Rattle.walk.specs.Judged.{Counts, walk_from, Walks}

-- THE SEGMENT AFTER the one that stands from start to end: the verdict from there on is the verdict
pub record Behind (T : Table) (m : Text) (start end start' end' k : ℕ) : Type 0 where
  pub later : end < start'
  pub here : Here m start' end' k
  pub counts : (ns : List Text) → Counts m start ns → Counts m start' (name (within start end m) ∷ ns)
  pub same : (ns : List Text) (last : Text) → may_follow T last (name (within start end m)) ≡ true
      → walk_from T m ns last start end ≡ walk_from T m (name (within start end m) ∷ ns) (name (within start end m)) start' end'

abbrev pub OnwardIs : Table → Text → ℕ → ℕ → Result (Option Listed) Halt → Type 0
OnwardIs T m start end (Err h) = Walks T m start end (Err h)
OnwardIs T m start end (Ok None) = Walks T m start end (Ok tt)
OnwardIs T m start end (Ok (Some next)) = Behind T m start end next.start next.end next.number
