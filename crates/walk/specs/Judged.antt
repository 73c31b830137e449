-- Inner: no entry's promise is made of this.
-- What only inner functions promise of the walk: where reading stops, and why.
use Rattle.std.specs.Prelude.{ℕ, suc, ◌+◌, ◌≤◌, ◌≡◌, Bool, true, drop, Result, Ok, Err, IfErr}
use mathlib.Core.List.{List, ◌∷◌, map, flat_map}
use Rattle.text.specs.Bytes.{Text, within}
use Rattle.text.specs.Marks.{marks_of}
use Rattle.frame.specs.Segments.{name}
use Rattle.profile.specs.Table.{Table, may_follow}
use Rattle.profile.specs.Numbers.{segment_number}
use Rattle.walk.specs.declared.Halt.{Halt}
use Rattle.walk.specs.declared.Why.{Why}
use Rattle.walk.specs.declared.Why.TheVariants.{OutOfPlace, MayNotEnd, FieldBroken}
use Rattle.checks.specs.Place.{Place, place}
use Rattle.checks.specs.View.{segment_seen, listed_segments}
use Rattle.checks.specs.Fault.{Verdict, accepted, fault, field_checks, first_broken, count, walk}
use Rattle.listing.specs.Listing.{count_from, count_before, Here}

abbrev pub number_at : Text → ℕ → ℕ → ℕ
number_at m start end = segment_number (name (within start end m))

-- WHY READING STOPPED at a segment: the verdict, given the segment's own place and the first broken check of its fields
abbrev pub why_verdict : Why → Place → Verdict → Verdict
why_verdict OutOfPlace p own = fault p 1
why_verdict MayNotEnd p own = fault p 2
why_verdict FieldBroken p own = own

-- WHERE READING STOPPED
abbrev pub halt_verdict : Table → Text → Halt → Verdict
halt_verdict T m h =
    let s = within h.start h.end m in
    let vs = (segment_seen T (marks_of m) s).fields in
    let o = suc (count_before m h.start (name s)) in
    why_verdict h.why (place (name s) o 0 0 0 0) (first_broken (flat_map (field_checks (marks_of m) (name s) o vs) vs))

-- what reading tells: accepted where it stopped nowhere
abbrev pub walk_verdict : Table → Text → Result Unit Halt → Verdict
walk_verdict T m (Ok _) = accepted
walk_verdict T m (Err h) = halt_verdict T m h

-- THE WALK from the listed segment that stands there, given the names of the listed ones before and the last of these
abbrev pub walk_from : Table → Text → List Text → Text → ℕ → ℕ → Verdict
walk_from T m ns last start end =
    first_broken (walk T (marks_of m) ns last (map (segment_seen T (marks_of m)) (within start end m ∷ listed_segments T (drop (end + 1) m))))

-- with those from there on, these are all of each listed name
abbrev pub Counts : Text → ℕ → List Text → Type 0
Counts m start ns = (n : Text) → 1 ≤ segment_number n → count n ns + count_from m start n ≡ count_from m 0 n

-- the walk from that segment ends so, where it may, or may not, follow what came before it
pub record WalksIf (fits : Bool) (T : Table) (m : Text) (start end : ℕ) (r : Result Unit Halt) : Type 0 where
  pub here : IfErr r (λ h. Here m h.start h.end (number_at m h.start h.end))
  pub same : (ns : List Text) (last : Text) → Counts m start ns → may_follow T last (name (within start end m)) ≡ fits
      → walk_verdict T m r ≡ walk_from T m ns last start end

abbrev pub Walks : Table → Text → ℕ → ℕ → Result Unit Halt → Type 0
Walks T m start end r = WalksIf true T m start end r
