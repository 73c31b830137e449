-- A demand is said with this.
-- Demand 3 takes a message and strikes out, beyond its first nine bytes, each segment that the table doesn't name, its CR too, and
-- the content of each unlisted field, component and subcomponent; the separators around them stay.
use Rattle.std.specs.Prelude.{ℕ, suc, Bool, true, false, not, ◌&&◌, ◌||◌, take, drop, eqb}
use mathlib.Core.List.{List, [], ◌∷◌, ◌++◌, map, flat_map}
use Rattle.text.specs.Bytes.{Text, pick, cr, empty, some, keep, same}
use Rattle.text.specs.declared.marks.Marks.{Marks}
use Rattle.text.specs.Marks.{marks_of}
use Rattle.parts.specs.Split.{split, join, closed}
use Rattle.frame.specs.Segments.{name, is_header, occurrence, header_size, opening_size}
use Rattle.profile.specs.Table.{Table, Leaf, Row, is_listed, leaves_in}
use Rattle.reader.specs.Place.{Place}
use Rattle.reader.specs.View.{named_in, listed_segments}

-- each piece changed by f, which is told the piece's number, from 1
unfoldable pub change : (ℕ → Text → Text) → List Text → List Text
change f [] = []
change f (p ∷ ps) = f 1 p ∷ change (λ k. f (suc k)) ps

-- a text's pieces changed, the separators as they were
unfoldable pub rewritten : ℕ → (ℕ → Text → Text) → Text → Text
rewritten sep f t = join sep (change f (split sep t))

-- the content, or nothing
abbrev pub only_if : Bool → Text → Text
only_if true t = t
only_if false t = []

-- among those leaves is one of that component; the one of that component and subcomponent
abbrev pub has_component : List Leaf → ℕ → Bool
has_component ls c = some (λ (l : Leaf). eqb l.component c) ls

abbrev pub has_leaf : List Leaf → ℕ → ℕ → Bool
has_leaf ls c b = some (λ (l : Leaf). eqb l.component c && eqb l.subcomponent b) ls

abbrev pub strike_subcomponent : List Leaf → ℕ → ℕ → Text → Text
strike_subcomponent ls c b t = only_if (has_leaf ls c b) t

abbrev pub strike_component : Marks → List Leaf → ℕ → Text → Text
strike_component q ls c t = only_if (has_component ls c) (rewritten q.subcomponent (strike_subcomponent ls c) t)

abbrev pub strike_repetition : Marks → List Leaf → Text → Text
strike_repetition q ls t = rewritten q.component (strike_component q ls) t

-- the table's rows for field f of a segment of that name
unfoldable pub rows_at : Table → Text → ℕ → List Row
rows_at T n f = keep (λ (r : Row). same r.segment n && eqb r.field f) T.rows

abbrev pub has_field : Table → Text → ℕ → Bool
has_field T n f = not (empty (rows_at T n f))

-- the listed leaves of field f of a segment: row by row, since the rows of any table need not rise
unfoldable pub field_leaves : Table → Marks → Text → ℕ → List Leaf
field_leaves T q s f = flat_map (λ (r : Row). leaves_in T (named_in q s) r.lists) (rows_at T (name s) f)

abbrev pub strike_field : Table → Marks → Text → ℕ → Text → Text
strike_field T q s f t =
    only_if (has_field T (name s) f) (rewritten q.repetition (λ r p. strike_repetition q (field_leaves T q s f) p) t)

-- the header's first nine bytes stay, and MSH-3 follows them: piece k after the ninth byte is field k + 2. Any other segment's name stays with its separator
abbrev pub after_ninth : ℕ → ℕ
after_ninth k = suc (suc k)

abbrev pub strike_after_ninth : Table → Marks → Text → ℕ → Text → Text
strike_after_ninth T q s k t = strike_field T q s (after_ninth k) t

abbrev pub strike_header : Table → Marks → Text → Text
strike_header T q s = take header_size s ++ rewritten q.field (strike_after_ninth T q s) (drop header_size s)

abbrev pub strike_other : Table → Marks → Text → Text
strike_other T q s = take opening_size s ++ rewritten q.field (strike_field T q s) (drop opening_size s)

unfoldable pub strike_segment : Table → Marks → Text → Text
strike_segment T q s = pick (is_header s) (strike_header T q s) (strike_other T q s)

-- THE STRUCK MESSAGE. (A table that does not name MSH would strike the header too; demand 3 is of tables that do)
unfoldable pub strike : Table → Text → Text
strike T m = closed cr (map (strike_segment T (marks_of m)) (listed_segments T m))

-- A LISTED PLACE: the table names its segment, and lists its leaf for that segment. Where the message has no such segment, each place of it counts, since both
-- look-ups are refused alike
abbrev pub is_listed_place : Table → Text → Place → Bool
is_listed_place T m p =
    let s = occurrence m p.name p.occurrence in
    is_listed T p.name && (empty s || has_leaf (field_leaves T (marks_of m) s p.field) p.component p.subcomponent)
