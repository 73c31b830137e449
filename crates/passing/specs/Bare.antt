-- Inner: no entry's promise is made of this.
-- What only a quick test speaks of: segments that have no byte in their fields.
use Rattle.std.specs.Prelude.{ℕ, ◌≤◌, List, length, Ok}
use Rattle.text.specs.Bytes.{Text}
use Rattle.text.specs.declared.marks.Marks.{Marks}
use Rattle.profile.specs.Numbers.{fields_from, table_of}
use Rattle.listing.specs.Listing.{HasNumber}
use Rattle.segments.specs.Judged.{ReadsSegment}

-- every such segment with that number breaks nothing
abbrev pub BarePasses : List ℕ → ℕ → Type 0
BarePasses table k =
    (q : Marks) (s : Text) → HasNumber s k → length s ≤ fields_from k → ReadsSegment q (table_of table) s (Ok tt)
