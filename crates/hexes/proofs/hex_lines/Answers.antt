-- `hex_lines`: the digits of as many bytes as are passed stand there.
use native.Mathlib.Omega.{arith}
use borrow.Author.Rules.{rules}
use Rattle.text.proofs.Writes.{writes-length}
use Rattle.hexes.proofs.HexLines.{hex_none, hex_on}
use Rattle.hexes.proofs.hex_lines.Goals as goal

pub loop-i-init : goal.loop-i-init
loop-i-init c = record { place = search rules; stays = search rules; wrote = hex_none _ c.args.t.now (omega arith) }

pub loop-i-preserved : goal.loop-i-preserved
loop-i-preserved c = record {
  place = omega (arith, c.put.ensures.puts.ends);
  stays = omega (arith, writes-length c.put.ensures);
  wrote = hex_on c.args.t.now c.loop-i.i (search rules) c.loop-i.invariant.wrote c.hex_digit.ensures c.hex_digit-in-loop-i.ensures c.gap.ensures c.put.ensures;
}
