-- `occurrence`: where it stands is told from the segments that are left.
use Prim.Native.Nat.{◌+◌, ◌≤◌}
use mathlib.Core.List.{[], ◌∷◌}
use lib.ListN.{length}
use Rattle.parts.specs.Split.{ended}
use Rattle.reader.specs.Copied.{standing}
use Rattle.reader.proofs.Seek.{Sought, taken}
use Rattle.reader.proofs.standing.occurrence.Given as goal

abbrev pub invariant-loop-s : goal.invariant-loop-s
invariant-loop-s l = (1 ≤ l.left)
    × ((l.start + taken (ended l.s-iterator.sep l.s-iterator.rest.now) ≤ length l.m)
    × Sought (l.a ∷ l.b ∷ l.c ∷ []) (standing l.m (l.a ∷ l.b ∷ l.c ∷ []) l.number) l.left l.start (ended l.s-iterator.sep l.s-iterator.rest.now))
