-- `seek`: the end of a piece lies in the text.
use lib.ListN.{drop, length-drop}
use Rattle.parts.proofs.Reach.{reach_le}
use native.Mathlib.Omega.{arith}
use Rattle.words.proofs.ends.seek.Goals as goal

pub returns : goal.returns
returns c = omega (arith, reach_le c.args.b (drop c.args.from c.args.s.now), length-drop c.args.from c.args.s.now)
