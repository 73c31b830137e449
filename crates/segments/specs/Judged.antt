-- Inner: no entry's promise is made of this.
-- What only inner functions promise of judging a segment: the first broken check of its fields.
use Rattle.std.specs.Prelude.{ℕ, ◌≡◌, Result, Ok, Err}
use mathlib.Core.List.{List, flat_map}
use Rattle.text.specs.Bytes.{Text}
use Rattle.text.specs.declared.marks.Marks.{Marks}
use Rattle.profile.specs.Table.{Table}
use Rattle.profile.specs.Numbers.{table_of}
use Rattle.codes.specs.Inner.{rule_at}
use Rattle.segments.specs.declared.Finding.{Finding}
use Rattle.checks.specs.Place.{place}
use Rattle.checks.specs.Reasons.{number_of_reason}
use Rattle.checks.specs.declared.reasons.Reason.{Reason}
use Rattle.checks.specs.View.{field_seen, segment_seen}
use Rattle.checks.specs.Fault.{Verdict, accepted, fault, field_checks, first_broken}
use Rattle.usage.specs.Listed.{fields_seen}

-- A SEGMENT: the first broken check of its listed fields
abbrev pub told_at : Text → ℕ → Result Unit Finding → Verdict
told_at n o (Ok _) = accepted
told_at n o (Err r) = fault (place n o r.field r.repetition r.component r.subcomponent) (number_of_reason r.reason)

abbrev pub at_repetition : Reason → ℕ → ℕ → Finding
at_repetition n f r = record { reason = n; field = f; repetition = r; component = 0; subcomponent = 0 }

abbrev pub ReadsSegment : Marks → Table → Text → Result Unit Finding → Type 0
ReadsSegment q T s r =
    (n : Text) (o : ℕ) → told_at n o r ≡ first_broken (flat_map (field_checks q n o (segment_seen T q s).fields) (segment_seen T q s).fields)

-- A FIELD OF A SEGMENT: its first broken check
abbrev pub ReadsFieldAt : Marks → List ℕ → Text → ℕ → ℕ → Result Unit Finding → Type 0
ReadsFieldAt q table s at end r =
    (n : Text) (o : ℕ)
    → told_at n o r ≡ first_broken (field_checks q n o (fields_seen table q s) (field_seen (table_of table) q s (rule_at table at end)))
