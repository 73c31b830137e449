-- `put_codes`: where the codes that are left are put, all are.
use Prim.Native.Nat.{◌+◌, ◌≤◌}
use mathlib.Core.Path.{◌≡◌}
use mathlib.Core.Bool.{true}
use lib.ListN.{length}
use Rattle.profile.specs.Codes.{are_codes}
use Rattle.chart.proofs.CodeByCode.{codes_led, Leaves}
use Rattle.chart.proofs.row.put_codes.Given as goal

abbrev pub invariant-loop-number : goal.invariant-loop-number
invariant-loop-number l = record {
  are : are_codes l.left ≡ true;
  room : l.w.at + length (codes_led l.left) ≤ length l.w.out.now;
  leaves : Leaves l.initial.w (codes_led l.codes) l.w (codes_led l.left);
}

abbrev pub decreases-loop-number : goal.decreases-loop-number
decreases-loop-number l = length l.left
