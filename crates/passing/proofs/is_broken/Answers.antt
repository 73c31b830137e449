-- `is_broken`: a segment that passes breaks nothing; any other is read.
use Rattle.std.proofs.Common.{Result, Ok, Err}
use Rattle.std.specs.Result.{is_err}
use Rattle.text.specs.Bytes.{Text}
use Rattle.text.specs.declared.marks.Marks.{Marks}
use Rattle.profile.specs.Table.{Table}
use Rattle.segments.specs.declared.Finding.{Finding}
use Rattle.segments.specs.Judged.{ReadsSegment}
use Rattle.passing.specs.Broken.{IsBroken}
use Rattle.passing.proofs.is_broken.Goals as goal

told : (q : Marks) (T : Table) (s : Text) (r : Result Unit Finding) → ReadsSegment q T s r → IsBroken q T s (is_err r)
told q T s (Ok u) h = h
told q T s (Err f) h = record { found = f; reads = h }

pub returns-then-not-segment_passes : goal.returns-then-not-segment_passes
returns-then-not-segment_passes c = rw c.is_err.ensures.value (told _ _ _ c.read_segment.result c.read_segment.ensures)
