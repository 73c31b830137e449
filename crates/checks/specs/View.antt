-- An entry's promise is made of this.
-- What judging sees of a message: its listed segments; of each its listed fields; of each of these whether it has too many
-- repetitions, and the listed leaves of its filled ones.
use Rattle.std.specs.Prelude.{ℕ, zero, suc, Bool, not, List, [], ◌∷◌, map, ltb}
use Rattle.text.specs.Bytes.{Text, pick, empty, some, keep}
use Rattle.text.specs.declared.marks.Marks.{Marks}
use Rattle.text.specs.Marks.{marks_of}
use Rattle.frame.specs.Segments.{segments, name}
use Rattle.profile.specs.Table.{Table, Leaf, Rule, is_listed, rules_of, leaves_of}
use Rattle.checks.specs.Place.{leaf_at, repetitions}

-- a listed leaf, and what stands there
pub record Entry : Type 0 where
  pub leaf : Leaf
  pub text : Text

pub record Repetition : Type 0 where
  pub number : ℕ
  pub entries : List Entry

pub record Field : Type 0 where
  pub rule : Rule
  pub surplus : Bool
  pub filled : List Repetition

pub record Segment : Type 0 where
  pub name : Text
  pub fields : List Field

-- the listed leaves of repetition r of field f of a segment
abbrev pub entries_at : Marks → Text → ℕ → List Leaf → ℕ → List Entry
entries_at q s f ls r =
    map (λ (l : Leaf). record { leaf = l; text = leaf_at q s f r l.component l.subcomponent }) ls

-- filled: some listed leaf is not Empty
abbrev pub is_filled : List Entry → Bool
is_filled es = some (λ (e : Entry). not (empty e.text)) es

abbrev pub add_filled : ℕ → List Entry → List Repetition → List Repetition
add_filled k es rs = pick (is_filled es) (record { number = k; entries = es } ∷ rs) rs

-- the filled ones of n repetitions, the first being number k
unfoldable pub filled_up_to : (ℕ → List Entry) → ℕ → ℕ → List Repetition
filled_up_to read k zero = []
filled_up_to read k (suc n) = add_filled k (read k) (filled_up_to read (suc k) n)

-- the type that a field of the segment names: the first leaf of its first repetition
abbrev pub named_in : Marks → Text → ℕ → Text
named_in q s f = leaf_at q s f 1 1 1

unfoldable pub field_seen : Table → Marks → Text → Rule → Field
field_seen T q s u =
    let n = repetitions q s u.field in
    record {
      rule = u;
      surplus = ltb u.repetitions n;
      filled = filled_up_to (entries_at q s u.field (leaves_of T (named_in q s) u)) 1 n;
    }

unfoldable pub segment_seen : Table → Marks → Text → Segment
segment_seen T q s = record { name = name s; fields = map (field_seen T q s) (rules_of T (name s)) }

-- unlisted segments are passed over
abbrev pub listed_segments : Table → Text → List Text
listed_segments T m = keep (λ s. is_listed T (name s)) (segments m)

-- THE VIEW
unfoldable pub view : Table → Text → List Segment
view T m = map (segment_seen T (marks_of m)) (listed_segments T m)
