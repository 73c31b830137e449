-- `behind`: the pieces that are left are told from where the loop stands.
use Prim.Native.Nat.{◌-◌, ◌≤◌}
use lib.ListN.{length}
use Rattle.cutting.proofs.Cutting.{Left}
use Rattle.cutting.proofs.behind.Given as goal

abbrev pub invariant-loop : goal.invariant-loop
invariant-loop l = (l.from ≤ length l.t) × Left l.sep l.t l.n (l.n - l.counter) l.from
