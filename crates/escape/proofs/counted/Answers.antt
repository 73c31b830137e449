-- `counted`: each step counts one byte.
use Rattle.std.proofs.Common.{rules}
use borrow.Author.Tests.{tests}
use Rattle.escape.proofs.Escapes.{counted-all}
use Rattle.escape.proofs.counted.Goals as goal

pub returns-then-is_empty : goal.returns-then-is_empty
returns-then-is_empty c = counted-all c.args.q c.args.t.now c.loop-after.n c.loop-after.rest.now (search (rules, tests)) c.loop-after.invariant
