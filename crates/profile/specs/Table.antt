-- An entry's promise is made of this.
-- A table: a row for each listed leaf, which types a field may name, and which segment may follow which.
use Rattle.std.specs.Prelude.{ℕ, Bool, true, false, not, ◌&&◌, eqb}
use mathlib.Core.List.{List, [], ◌∷◌, flat_map}
use Rattle.text.specs.Bytes.{Text, pick, some, keep, same, is_one}
use Rattle.types.specs.Types.{is_si, is_nm, is_dtm, is_tm, day_exists}

pub data Simple : Type 0 where
  SI NM DTM TM ST TX FT ID IS : Simple

-- a text of a simple type; types other than these four take any text
abbrev pub of_type : Simple → Text → Bool
of_type SI t = is_si t
of_type NM t = is_nm t
of_type DTM t = is_dtm t
of_type TM t = is_tm t
of_type ST t = true
of_type TX t = true
of_type FT t = true
of_type ID t = true
of_type IS t = true

-- a text of type DTM whose month has no such day; a text of another type names no day
abbrev pub no_such_day : Simple → Text → Bool
no_such_day SI t = false
no_such_day NM t = false
no_such_day DTM t = not (day_exists t)
no_such_day TM t = false
no_such_day ST t = false
no_such_day TX t = false
no_such_day FT t = false
no_such_day ID t = false
no_such_day IS t = false

-- any text; or one of a list, and the reason where it is none of them
pub data Codes : Type 0 where
  any : Codes
  only : List Text → ℕ → Codes

pub record Leaf : Type 0 where
  pub component : ℕ
  pub subcomponent : ℕ
  pub type : Simple
  -- required within a filled repetition
  pub star : Bool
  pub limit : ℕ
  pub list : Codes

-- what a row lists: one leaf, or the leaves of the type that another field's first repetition names
pub data Listed : Type 0 where
  leaf : Leaf → Listed
  named_by_field : ℕ → Listed

-- optional, required, or required where the first repetition of another field is filled
pub data Usage : Type 0 where
  O R : Usage
  C : ℕ → Usage

pub record Row : Type 0 where
  pub segment : Text
  pub field : ℕ
  pub usage : Usage
  pub repetitions : ℕ
  pub lists : Listed

-- a type that a field may name, and its leaves
pub record TypeLeaves : Type 0 where
  pub type : Text
  pub leaves : List Leaf

-- a segment, and those that may come next
pub record Succession : Type 0 where
  pub segment : Text
  pub then : List Text

pub record Table : Type 0 where
  pub rows : List Row
  pub types : List TypeLeaves
  -- the leaves where a field names none of those types
  pub otherwise : List Leaf
  -- nothing comes before the first segment: its name is no bytes there
  pub succession : List Succession
  pub ends : List Text

-- the leaves of the type that is named so
unfoldable pub type_leaves : List TypeLeaves → List Leaf → Text → List Leaf
type_leaves [] otherwise t = otherwise
type_leaves (x ∷ xs) otherwise t = pick (same x.type t) x.leaves (type_leaves xs otherwise t)

-- the listed segments; which may follow which; after which the message may end
abbrev pub is_listed : Table → Text → Bool
is_listed T n = some (λ (r : Row). same r.segment n) T.rows

abbrev pub may_follow : Table → Text → Text → Bool
may_follow T last n = some (λ (s : Succession). same s.segment last && is_one n s.then) T.succession

abbrev pub may_end : Table → Text → Bool
may_end T last = is_one last T.ends

-- a listed field: what its rows list; its usage and repetitions are those of its first row
pub record Rule : Type 0 where
  pub field : ℕ
  pub usage : Usage
  pub repetitions : ℕ
  pub lists : List Listed

abbrev pub rule : Row → List Listed → Rule
rule r ls = record { field = r.field; usage = r.usage; repetitions = r.repetitions; lists = ls }

-- a row in front of the rules: it joins the first of them where that is of its field
abbrev pub gather : Row → List Rule → List Rule
gather r [] = rule r (r.lists ∷ []) ∷ []
gather r (u ∷ us) =
    pick (eqb r.field u.field) (rule r (r.lists ∷ u.lists) ∷ us) (rule r (r.lists ∷ []) ∷ u ∷ us)

unfoldable pub gathered : List Row → List Rule
gathered [] = []
gathered (r ∷ rs) = gather r (gathered rs)

-- THE LISTED FIELDS of a segment, rising as the table's rows do
unfoldable pub rules_of : Table → Text → List Rule
rules_of T n = gathered (keep (λ (r : Row). same r.segment n) T.rows)

-- the leaves that a row lists, given what each field names
abbrev pub leaves_in : Table → (ℕ → Text) → Listed → List Leaf
leaves_in T names (leaf l) = l ∷ []
leaves_in T names (named_by_field f) = type_leaves T.types T.otherwise (names f)

-- THE LISTED LEAVES of a field
abbrev pub leaves_of : Table → (ℕ → Text) → Rule → List Leaf
leaves_of T names u = flat_map (leaves_in T names) u.lists
