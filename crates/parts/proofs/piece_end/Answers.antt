-- `piece_end`: a separator stands there, or it is further on, or the text is at its end.
use native.Mathlib.Omega.{arith}
use borrow.Author.Rules.{rules}
use Rattle.parts.proofs.Reach.{reach_here, reach-end}
use Rattle.parts.proofs.piece_end.Goals as goal

pub returns-then-t-from : goal.returns-then-t-from
returns-then-t-from c = omega (arith, reach_here c.args.sep c.args.t.now c.args.from (search rules) c.if-t-from.true)

pub returns : goal.returns
returns c = omega (arith, reach-end c.args.sep c.args.t.now c.args.from c.if-from-t.false)
