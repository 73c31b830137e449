-- `spell`: the digits still to be written stand before those that are.
use borrow.Author.Rules.{rules}
use mathlib.Core.Path.{◌∙◌}
use Rattle.text.proofs.Digits.{digits-done, digits-on, digits-none}
use Rattle.text.proofs.writing.spell.Goals as goal

pub returns-then-left-lt10 : goal.returns-then-left-lt10
returns-then-left-lt10 c = (
  search rules,
  digits-done c.loop-i.digits c.loop-i.left c.loop-i.i (search rules) (search rules) c.if-left-lt10.true ∙ c.loop-i.invariant,
)

pub loop-i-preserved : goal.loop-i-preserved
loop-i-preserved c = digits-on c.loop-i.digits c.loop-i.left c.loop-i.i (search rules) (search rules) c.if-left-lt10.false ∙ c.loop-i.invariant

pub returns : goal.returns
returns c = (search rules, digits-none c.loop-i.digits c.loop-i.left c.loop-i.i c.loop-i-test.false ∙ c.loop-i.invariant)
