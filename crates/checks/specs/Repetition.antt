-- Inner: no entry's promise is made of this.
-- A repetition by its bytes alone: its listed leaves, and which of some repetitions are filled.
use Rattle.std.specs.Prelude.{ℕ, suc, List, [], ◌∷◌, map}
use Rattle.text.specs.Bytes.{Text, pick, empty}
use Rattle.text.specs.declared.marks.Marks.{Marks}
use Rattle.parts.specs.Split.{split}
use Rattle.parts.specs.Descent.{in_repetition}
use Rattle.parts.specs.Span.{part_text}
use Rattle.profile.specs.Table.{Leaf}
use Rattle.checks.specs.View.{Entry, Repetition, add_filled}

abbrev pub leaf_in : Marks → Text → ℕ → ℕ → Text
leaf_in q t c b = part_text (in_repetition q c b) t

abbrev pub entries_of : Marks → List Leaf → Text → List Entry
entries_of q ls t = map (λ (l : Leaf). record { leaf = l; text = leaf_in q t l.component l.subcomponent }) ls

-- the filled ones of these repetitions, the first being number k
unfoldable pub filled_from : ℕ → (Text → List Entry) → List Text → List Repetition
filled_from k read [] = []
filled_from k read (t ∷ ts) = add_filled k (read t) (filled_from (suc k) read ts)

-- the repetitions of a field that is split: of no bytes it has none
abbrev pub repetitions_in : Marks → Text → List Text
repetitions_in q x = pick (empty x) [] (split q.repetition x)
