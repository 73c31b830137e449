-- `far_end`: the end is told from where the loop stands.
use Prim.Native.Nat.{◌+◌, ◌-◌, ◌≤◌}
use mathlib.Core.Path.{◌≡◌}
use lib.ListN.{length, drop}
use Rattle.parts.specs.Start.{reach}
use Rattle.parts.proofs.far_end.Given as goal

abbrev pub invariant-loop-i : goal.invariant-loop-i
invariant-loop-i l = (l.i ≤ length l.t) × (l.i + reach l.sep (drop l.i l.t) ≡ l.from + reach l.sep (drop l.from l.t))

abbrev pub decreases-loop-i : goal.decreases-loop-i
decreases-loop-i l = length l.t - l.i
