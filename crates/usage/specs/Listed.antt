-- Inner: no entry's promise is made of this.
-- What only inner functions promise of a segment's listed fields: what is seen of them.
use Rattle.std.specs.Prelude.{ℕ, List}
use Rattle.text.specs.Bytes.{Text}
use Rattle.text.specs.declared.marks.Marks.{Marks}
use Rattle.profile.specs.Numbers.{table_of}
use Rattle.checks.specs.View.{Field, segment_seen}

-- what is seen of a segment's listed fields
abbrev pub fields_seen : List ℕ → Marks → Text → List Field
fields_seen table q s = (segment_seen (table_of table) q s).fields
