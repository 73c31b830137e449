-- `descend` calls itself, the depth falling: each piece lies in the message.
use native.Mathlib.Omega.{arith}
use Rattle.parts.proofs.Descent.{step_fits, reached-all, reached-down}
use Rattle.parts.proofs.+descend.Goals as goal

pub returns-then-depth-eq0 : goal.returns-then-depth-eq0
returns-then-depth-eq0 t c =
    reached-all c.args.q c.args.n c.args.depth c.args.from c.args.to c.args.m.now c.requires.0 c.requires.1 c.if-depth-eq0.true

pub overflow_add-start : goal.overflow_add-start
overflow_add-start t c =
    omega (arith, step_fits c.args.m.now c.args.from c.args.to c.requires.0 c.requires.1 c.mark.result c.number.result c.piece-p.result c.piece-p.ensures)

pub overflow_add-end : goal.overflow_add-end
overflow_add-end t c =
    omega (arith, step_fits c.args.m.now c.args.from c.args.to c.requires.0 c.requires.1 c.mark.result c.number.result c.piece-p.result c.piece-p.ensures)

pub descend-requires : goal.descend-requires
descend-requires t c =
    let f = step_fits c.args.m.now c.args.from c.args.to c.requires.0 c.requires.1 c.mark.result c.number.result c.piece-p.result c.piece-p.ensures in
    (omega arith, (omega arith, f.1))

pub returns : goal.returns
returns t c =
    reached-down c.args.q c.args.n c.args.m.now c.args.from c.args.to c.requires.0 c.requires.1 c.piece-p.result
    c.args.depth c.mark.result c.number.result c.piece-p.ensures c.mark.ensures c.number.ensures
    c.if-depth-eq0.false c.descend.result c.descend.ensures
