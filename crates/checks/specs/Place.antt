-- An entry's promise is made of this.
-- A place of a message, and the text that stands there.
use Rattle.std.specs.Prelude.{ℕ, Bool, ◌&&◌, length, eqb}
use Rattle.text.specs.Bytes.{Text, pick, empty}
use Rattle.text.specs.declared.marks.Marks.{Marks}
use Rattle.text.specs.Marks.{marks_of}
use Rattle.text.specs.Ranges.{◌to◌, is_within}
use Rattle.parts.specs.Split.{split, Located, whole, nothing}
use Rattle.parts.specs.Descent.{part, in_field}
use Rattle.frame.specs.Frame.{most_segments}
use Rattle.frame.specs.Segments.{is_name, occurrence_of, field_of, unsplit}

pub record Place : Type 0 where
  pub name : Text
  pub occurrence : ℕ
  pub field : ℕ
  pub repetition : ℕ
  pub component : ℕ
  pub subcomponent : ℕ

abbrev pub place : Text → ℕ → ℕ → ℕ → ℕ → ℕ → Place
place n o f r c b =
    record { name = n; occurrence = o; field = f; repetition = r; component = c; subcomponent = b }

-- the greatest number of a field, component or subcomponent, and of a repetition, that may be asked for
abbrev pub most_number : ℕ
most_number = 255

abbrev pub most_repetition : ℕ
most_repetition = 65535

-- a place that may be asked for
abbrev pub is_place : Place → Bool
is_place p =
    is_name p.name
    && is_within (1 to most_segments) p.occurrence
    && is_within (1 to most_number) p.field
    && is_within (1 to most_repetition) p.repetition
    && is_within (1 to most_number) p.component
    && is_within (1 to most_number) p.subcomponent

-- A FIELD TAKEN APART: how many repetitions it has, of no bytes none; and what stands at a repetition, component and subcomponent of it
pub record Apart : Type 0 where
  pub repetitions : ℕ
  pub leaf : ℕ → ℕ → ℕ → Located

-- one leaf, and Empty beyond it
abbrev pub one_leaf : Located → Apart
one_leaf t = record { repetitions = pick (empty t.text) 0 1; leaf = λ r c b. pick (eqb r 1 && eqb c 1 && eqb b 1) t nothing }

-- repetitions, one more than their separators; these are split into components, these into subcomponents
abbrev pub split_field : Marks → Located → Apart
split_field q t =
    record {
      repetitions = pick (empty t.text) 0 (length (split q.repetition t.text));
      leaf = λ r c b. part (in_field q r c b) t;
    }

-- MSH-1 and MSH-2 are one leaf each; every other field is split
unfoldable pub apart : Marks → Located → ℕ → Apart
apart q s f = pick (unsplit s.text f) (one_leaf (field_of q s f)) (split_field q (field_of q s f))

-- THE LEAF at field, repetition, component and subcomponent of a segment, with its start; and its bytes
abbrev pub leaf_of : Marks → Located → ℕ → ℕ → ℕ → ℕ → Located
leaf_of q s f r c b = (apart q s f).leaf r c b

unfoldable pub leaf_at : Marks → Text → ℕ → ℕ → ℕ → ℕ → Text
leaf_at q s f r c b = (leaf_of q (whole s) f r c b).text

-- how many repetitions a field of a segment has
unfoldable pub repetitions : Marks → Text → ℕ → ℕ
repetitions q s f = (apart q (whole s) f).repetitions

-- THE TEXT at a place of a message, with its start
unfoldable pub stands_at : Text → Place → Located
stands_at m p =
    leaf_of (marks_of m) (occurrence_of m p.name p.occurrence)
    p.field p.repetition p.component p.subcomponent

-- its bytes
unfoldable pub text_at : Text → Place → Text
text_at m p = (stands_at m p).text
