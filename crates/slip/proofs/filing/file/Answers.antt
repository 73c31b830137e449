-- `file`: judging's refusals, then NotAccepted, then the group's own.
use mathlib.Core.Path.{ap, ◌∙◌}
use Rattle.std.proofs.Common.{Ok}
use Rattle.std.proofs.lemmas.Result.{err_from_is_err_and}
use Rattle.slip.proofs.Answers.{files-frame, files-fault, files-accepted, files-own}
use Rattle.slip.proofs.filing.file.Goals as goal

pub returns-in_err-judge : goal.returns-in_err-judge
returns-in_err-judge c = let r = err_from_is_err_and c.from_residual.result c.from_residual.ensures.1 in
    rw (r.1, r.2) (files-frame c.args.m.now c.args.group c.args.slot c.args.book.now c.judge.result c.judge.ensures c.in_err-judge.field-0.0 c.in_err-judge.was)

pub file_accepted-requires : goal.file_accepted-requires
file_accepted-requires c = files-accepted c.args.m.now c.args.group c.args.slot c.args.book.now c.judge.result c.judge.ensures (c.in_ok-judge.was ∙ ap Ok c.in-None.is)

pub returns-in-Some : goal.returns-in-Some
returns-in-Some c = files-fault c.args.m.now c.args.group c.args.slot c.args.book.now c.judge.result c.judge.ensures _ (c.in_ok-judge.was ∙ ap Ok c.in-Some.is)

pub returns-in-None : goal.returns-in-None
returns-in-None c = files-own c.args.m.now c.args.group c.args.slot c.args.book.now c.judge.result c.judge.ensures (c.in_ok-judge.was ∙ ap Ok c.in-None.is)
    _ _ c.file_accepted.ensures
