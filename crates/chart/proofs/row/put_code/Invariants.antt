-- `put_code`: after the blank and the first byte, as many bytes as are passed stand there.
use Prim.Native.Nat.{◌+◌, ◌-◌, ◌≤◌}
use lib.ListN.{length, take}
use Rattle.text.specs.Writes.{Writes}
use Rattle.chart.proofs.row.put_code.Given as goal

abbrev pub invariant-loop-i : goal.invariant-loop-i
invariant-loop-i l = record {
  room : l.w.at + (length l.others - l.i) ≤ length l.w.out.now;
  writes : Writes l.initial.w (take l.i l.others) l.w;
}
