-- `put_resolved`: each step writes one byte.
use Prim.Native.Nat.{◌-◌}
use lib.ListN.{length, drop}
use Rattle.escape.proofs.Escapes.{Filled}
use Rattle.escape.proofs.put_resolved.Given as goal

abbrev pub invariant-loop-i : goal.invariant-loop-i
invariant-loop-i l = Filled l.q l.t l.initial.w (record l.w { at = l.to }) (drop l.i l.t)

abbrev pub decreases-loop-i : goal.decreases-loop-i
decreases-loop-i l = length l.t - l.i
