-- `reply`: the frame's refusal, or the reply by the verdict.
use Rattle.std.proofs.lemmas.Result.{err_from_is_err_and}
use Rattle.reply.proofs.Whole.{judged-good, replies-refused, replies-given}
use Rattle.reply.proofs.reply.Goals as goal

pub acknowledge-requires : goal.acknowledge-requires
acknowledge-requires c = judged-good c.args.m.now c.judge.result c.judge.ensures _ c.in_ok-fault.was

pub returns-in_err-fault : goal.returns-in_err-fault
returns-in_err-fault c =
    let r = err_from_is_err_and c.from_residual.result c.from_residual.ensures.1 in
    rw (r.1, r.2)
    (replies-refused c.args.m.now c.judge.result c.judge.ensures c.args.stamp.now c.args.number.now c.args.buffer.now _ c.in_err-fault.was)

pub returns : goal.returns
returns c = replies-given c.args.m.now c.judge.result c.judge.ensures c.args.stamp.now c.args.number.now c.args.buffer.now _ c.in_ok-fault.was c.acknowledge.ensures
