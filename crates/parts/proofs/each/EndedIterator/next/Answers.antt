-- `next`: the first of the pieces that are left, or none is.
use borrow.Author.Rules.{rules}
use native.Mathlib.Omega.{arith}
use mathlib.Core.Path.{ap}
use lib.ListN.{length}
use Rattle.parts.proofs.Reach.{ended-first, ended-none}
use Rattle.parts.proofs.each.EndedIterator.next.Goals as goal

pub returns-then-t-end-clause-steps : goal.returns-then-t-end-clause-steps
returns-then-t-end-clause-steps c =
    let e = ended-none c.args.self.now.sep c.args.self.now.rest.now _ c.far_end-end.ensures c.if-t-end.true in
    (e, e)

pub returns-clause-steps : goal.returns-clause-steps
returns-clause-steps c = ended-first c.args.self.now.sep c.args.self.now.rest.now _ c.far_end-end.ensures c.if-t-end.false

pub returns-clause-goes : goal.returns-clause-goes
returns-clause-goes c =
    let e = ap length (ended-first c.args.self.now.sep c.args.self.now.rest.now _ c.far_end-end.ensures c.if-t-end.false) in
    record { on = λ h. (search rules, h, omega arith); keeps = search rules; rests = search rules }
