-- `piece`: the piece sought is told from where the loop stands.
use Prim.Native.Nat.{◌+◌, ◌-◌, ◌≤◌}
use mathlib.Core.Path.{◌≡◌}
use lib.ListN.{length, drop}
use Rattle.parts.specs.Split.{split}
use Rattle.parts.specs.Start.{start, reach}
use Rattle.parts.specs.Split as split
use Rattle.parts.specs.Span.{span}
use Rattle.parts.proofs.Sought.{Sought}
use Rattle.parts.proofs.piece.Given as goal

abbrev pub invariant-loop : goal.invariant-loop
invariant-loop l = (l.from ≤ length l.t)
    × ((l.to ≡ l.from + reach l.sep (drop l.from l.t))
    × Sought l.sep l.t (span (start l.sep l.n l.t) (split.piece l.n (split l.sep l.t))) (l.n - l.counter) l.from)
