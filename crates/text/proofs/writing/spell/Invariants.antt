-- `spell`: the digits still to be written stand before those that are.
use mathlib.Core.Path.{◌≡◌}
use lib.ListN.{drop}
use Rattle.text.specs.Decimal.{digits_before, decimal}
use Rattle.text.proofs.writing.spell.Given as goal

abbrev pub invariant-loop-i : goal.invariant-loop-i
invariant-loop-i l = digits_before l.i l.left (drop l.i l.digits) ≡ decimal l.n
