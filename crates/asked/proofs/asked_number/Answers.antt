-- `asked_number`: the answer is told from where the loop stands.
use Rattle.std.proofs.Common.{rules, sym, ◌∙◌}
use borrow.Author.Tests.{tests}
use Rattle.asked.proofs.Read.{read-on, read-bad, read_all, read-empty}
use Rattle.asked.proofs.asked_number.Goals as goal

pub returns-then-is_empty : goal.returns-then-is_empty
returns-then-is_empty c = sym (read-empty _ (search (rules, tests)))

pub returns-then-not-is_digit : goal.returns-then-not-is_digit
returns-then-not-is_digit c =
    sym (read-bad c.args.t.now c.loop-b.n c.loop-b.b-index c.loop-b.invariant (search rules) (sym c.is_digit.ensures ∙ c.if-not-is_digit.true))

pub loop-b-preserved : goal.loop-b-preserved
loop-b-preserved c =
    rw c.with_digit-n.ensures
    (read-on c.args.t.now c.loop-b.n c.loop-b.b-index c.loop-b.invariant (search rules) (sym c.is_digit.ensures ∙ c.if-not-is_digit.false))

pub returns : goal.returns
returns c = sym (read_all c.args.t.now c.loop-b.n c.loop-b.b-index c.loop-b.invariant (search (rules, tests)) c.loop-b-test.false)
