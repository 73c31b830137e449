-- `resolved_len`: where no \ is, a text is as long as it is written.
use borrow.Author.Rules.{rules}
use mathlib.Core.Path.{sym, ◌∙◌}
use Rattle.escape.specs.Step.{is_other}
use Rattle.escape.proofs.Escapes.{counted_free}
use Rattle.escape.proofs.resolved_len.Goals as goal

pub returns-then-every : goal.returns-then-every
returns-then-every c =
    counted_free c.args.q c.args.t.now (sym (c.every.ensures (is_other c.args.q.escape) (λ b r h e. search rules)) ∙ c.if-every.true)
