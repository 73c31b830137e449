-- Inner: no entry's promise is made of this.
-- What only inner functions promise: whether a segment's own fields break something.
use Rattle.std.specs.Prelude.{Bool, true, false, Ok, Err}
use Rattle.text.specs.Bytes.{Text}
use Rattle.text.specs.declared.marks.Marks.{Marks}
use Rattle.profile.specs.Table.{Table}
use Rattle.segments.specs.declared.Finding.{Finding}
use Rattle.segments.specs.Judged.{ReadsSegment}

-- some check is broken; none is
pub record Breaks (q : Marks) (T : Table) (s : Text) : Type 0 where
  pub found : Finding
  pub reads : ReadsSegment q T s (Err found)

abbrev pub IsBroken : Marks → Table → Text → Bool → Type 0
IsBroken q T s true = Breaks q T s
IsBroken q T s false = ReadsSegment q T s (Ok tt)
