-- `put_segment`: field by field.
use Prim.Native.Nat.{◌-◌}
use Rattle.page.proofs.SegmentRules.{PutsFields}
use Rattle.page.proofs.put_segment.Given as goal

abbrev pub invariant-loop-first : goal.invariant-loop-first
invariant-loop-first l = PutsFields l.table l.segment l.a.name.now l.a.field l.a.component l.k l.end l.initial.w l.w l.first

abbrev pub decreases-loop-first : goal.decreases-loop-first
decreases-loop-first l = l.end - l.first
