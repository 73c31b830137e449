-- `last_end`: the end is told from where the loop stands.
use Prim.Native.Nat.{◌+◌}
use mathlib.Core.Path.{◌≡◌}
use lib.ListN.{drop}
use Rattle.parts.specs.Start.{reach}
use Rattle.parts.proofs.last_end.Given as goal

abbrev pub invariant-loop-i : goal.invariant-loop-i
invariant-loop-i l = l.i + reach l.sep (drop l.i l.t) ≡ l.from + reach l.sep (drop l.from l.t)
