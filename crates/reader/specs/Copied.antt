-- Inner: no entry's promise is made of this.
-- Where a segment stands, and what copying one of its leaves takes.
use Rattle.std.specs.Prelude.{ℕ, [], Option, None, Some}
use Rattle.text.specs.Bytes.{Text, pick}
use Rattle.text.specs.declared.span.Span.{Span}
use Rattle.parts.specs.Span.{span}
use Rattle.frame.specs.Segments.{fewer, occurrence}
use Rattle.frame.specs.Starts.{occurrence_start}
use Rattle.seek.specs.Inner.{LiesIn, segment}

-- where occurrence o of a name stands
abbrev pub standing : Text → Text → ℕ → Option Span
standing m n o = pick (fewer m n o) None (Some (span (occurrence_start m n o) (occurrence m n o)))

-- the segment lies in the message
abbrev pub Stood : Text → Option Span → Type 0
Stood m None = Unit
Stood m (Some s) = LiesIn s m

-- its bytes: none where it is missing
abbrev pub segment_text : Text → Option Span → Text
segment_text m None = []
segment_text m (Some s) = segment s m
