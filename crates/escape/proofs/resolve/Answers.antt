-- `resolve`: a bad escape, no room, or the resolved text.
use Rattle.std.proofs.Common.{rules}
use Rattle.std.proofs.lemmas.Result.{err_from_is_err_and}
use Rattle.escape.proofs.Escapes.{resolves-bad, resolves_full, resolves-given}
use Rattle.escape.proofs.resolve.Goals as goal

pub returns-in_err-n : goal.returns-in_err-n
returns-in_err-n c = let p = err_from_is_err_and c.from_residual.result c.from_residual.ensures.1 in
    rw (p.1, p.2) (resolves-bad _ _ _ c.usual_marks-q.ensures _ c.resolved_len.ensures _ c.in_err-n.ensures.value)

pub returns-then-buffer-n : goal.returns-then-buffer-n
returns-then-buffer-n c = resolves_full _ _ _ c.usual_marks-q.ensures _ c.resolved_len.ensures _ c.in_ok-n.ensures.value c.if-buffer-n.true

pub returns : goal.returns
returns c =
    let h = resolves-given _ _ _ c.usual_marks-q.ensures _ c.resolved_len.ensures _ _ _ c.in_ok-n.ensures.value c.put_resolved.ensures.puts in
    search (rules, h)
