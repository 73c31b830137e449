-- `judge`: the frame's refusals, then the verdict.
use Rattle.std.proofs.lemmas.Result.{err_from_is_err_and}
use Rattle.profile.specs.Profile.{profile01}
use Rattle.reader.proofs.Headed.{judged-frame, judged-framed, judged-on}
use Rattle.reader.proofs.judging.judge.Goals as goal

pub returns-in_err-check : goal.returns-in_err-check
returns-in_err-check c = let r = err_from_is_err_and c.from_residual.result c.from_residual.ensures.1 in
    rw (r.1, r.2) (judged-frame c.args.m.now c.check.result c.check.ensures profile01 c.in_err-check.field-0.0 c.in_err-check.was)

pub judge_framed-requires : goal.judge_framed-requires
judge_framed-requires c = (c.profile.ensures.rule, judged-framed c.args.m.now c.check.result c.check.ensures _ c.in_ok-check.was)

pub returns : goal.returns
returns c = judged-on c.args.m.now c.check.result c.check.ensures c.profile.result profile01 c.judge_framed.result _
    c.profile.ensures.rows c.in_ok-check.was c.judge_framed.ensures
