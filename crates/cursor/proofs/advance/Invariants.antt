-- `advance`: the cursor stands at a piece all along.
use Rattle.cursor.specs.Cursor.{IsPiece}
use Rattle.cursor.proofs.Moving.{cursor}
use Rattle.cursor.proofs.advance.Given as goal

abbrev pub invariant-loop : goal.invariant-loop
invariant-loop l = IsPiece l.sep l.t (cursor l.counter l.start l.end)
