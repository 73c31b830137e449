-- `put`: as much of the text as is passed stands at the place.
use borrow.Author.Rules.{rules}
use native.Mathlib.Omega.{arith}
use Prim.Native.Nat.{◌+◌}
use mathlib.Core.Path.{◌≡◌}
use lib.ListN.{length-set}
use Rattle.text.proofs.Puts.{puts-on}
use Rattle.text.proofs.writing.put.Goals as goal

pub loop-i-preserved : goal.loop-i-preserved
loop-i-preserved c =
    let next : c.args.at + c.loop-i.i + 1 ≡ c.args.at + (c.loop-i.i + 1) = omega arith in (
      simp length-set c.loop-i.invariant.0,
      rw next at (puts-on c.args.t.now c.loop-i.i (search rules) (search rules) c.loop-i.invariant.1),
    )
