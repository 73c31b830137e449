-- `hex_lines`: the digits of as many bytes as are passed stand there.
use Prim.Native.Nat.{◌*◌}
use mathlib.Core.Path.{◌≡◌}
use lib.ListN.{length, take}
use Rattle.text.specs.Writes.{Writes}
use Rattle.hexes.specs.Hex.{hex_from}
use Rattle.hexes.proofs.hex_lines.Given as goal

abbrev pub invariant-loop-i : goal.invariant-loop-i
invariant-loop-i l = record {
  place : l.w.at ≡ 3 * l.i;
  stays : length l.w.out.now ≡ length l.initial.w.out.now;
  wrote : Writes l.initial.w (hex_from 0 (take l.i l.t)) l.w;
}
