-- `occurrence_at`: the occurrence is told from where the count stands.
use Prim.Native.Nat.{◌-◌}
use Rattle.listing.proofs.Counted.{Counted}
use Rattle.listing.proofs.occurrence_at.Given as goal

abbrev pub invariant-loop-at : goal.invariant-loop-at
invariant-loop-at l = Counted l.m l.start l.occurrence l.at

abbrev pub decreases-loop-at : goal.decreases-loop-at
decreases-loop-at l = l.start - l.at
