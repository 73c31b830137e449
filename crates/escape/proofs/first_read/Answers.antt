-- `first_read`: a byte, an escape, or none where there is nothing or a bad escape.
use Rattle.std.proofs.Common.{rules}
use borrow.Author.Tests.{tests}
use Rattle.escape.proofs.Escapes.{first_byte, first_none, first_few, first_escape, first_other, first_open}
use Rattle.escape.proofs.first_read.Goals as goal
use Rattle.escape.proofs.first_read.Goals.{in_default-via-then-t-lt1, in_default-via-in-len1-up+else-b-q+then-t-lt3, in_default-via-in-len3-up+else-end-q}

pub returns-in-len1-up : goal.returns-in-len1-up
returns-in-len1-up c = first_byte _ _ c.in-len1-up.len_at_least c.if-b-q.true

pub returns-in_ok-meant-in-len3-up : goal.returns-in_ok-meant-in-len3-up
returns-in_ok-meant-in-len3-up c =
    first_escape _ _ _ c.in-len3-up.len_at_least c.if-b-q.false c.if-end-q.true c.in_ok-meant-in-len3-up.ensures

pub returns-in_err-meant-in-len3-up : goal.returns-in_err-meant-in-len3-up
returns-in_err-meant-in-len3-up c =
    rw c.from_residual.ensures (first_other _ _ c.in-len3-up.len_at_least c.if-b-q.false c.in_err-meant-in-len3-up.ensures)

pub returns-in_default : goal.returns-in_default
returns-in_default c =
    elim c.in_default.branch [
      | in_default-via-then-t-lt1 w ↦ first_none _ _ (search (rules, tests))
      | in_default-via-in-len1-up+else-b-q+then-t-lt3 w ↦ first_few _ _ w.in-len1-up.len_at_least (search (rules, tests)) w.if-b-q.false
      | in_default-via-in-len3-up+else-end-q w ↦ first_open _ _ w.in-len3-up.len_at_least w.if-b-q.false w.if-end-q.false
    ]
