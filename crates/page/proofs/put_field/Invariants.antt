-- `put_field`: row by row.
use Prim.Native.Nat.{◌-◌}
use Rattle.page.proofs.FieldRows.{PutsRows}
use Rattle.page.proofs.put_field.Given as goal

abbrev pub invariant-loop-start : goal.invariant-loop-start
invariant-loop-start l = PutsRows l.table l.first l.next l.segment l.a.name.now l.a.field l.a.component l.alone l.initial.w l.w l.start

abbrev pub decreases-loop-start : goal.decreases-loop-start
decreases-loop-start l = l.next - l.start
