-- Inner: no entry's promise is made of this.
-- What only inner functions promise of a listed field: its leaves.
use Rattle.std.specs.Prelude.{ℕ, List}
use Rattle.text.specs.Bytes.{Text}
use Rattle.text.specs.declared.marks.Marks.{Marks}
use Rattle.profile.specs.Table.{Leaf, leaves_of}
use Rattle.profile.specs.Numbers.{table_of}
use Rattle.codes.specs.Inner.{rule_at}
use Rattle.checks.specs.View.{named_in}

-- the leaves that a field with those rows lists
abbrev pub leaves_of_field : Marks → List ℕ → Text → ℕ → ℕ → List Leaf
leaves_of_field q table s at end = leaves_of (table_of table) (named_in q s) (rule_at table at end)
