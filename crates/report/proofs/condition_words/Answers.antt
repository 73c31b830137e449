-- `condition_words`: each condition has its words: where the condition is v, they are v's.
use borrow.Author.Rules.{rules}
use Rattle.text.specs.Decimal.{digits_before}
use Rattle.parts.specs.Split.{led, join}
use Rattle.report.proofs.ErrorLaws.{condition_told, condition-other}
use Rattle.report.proofs.condition_words.Goals as goal

pub returns-in-100 : goal.returns-in-100
unfolding join led digits_before
returns-in-100 c = condition_told c.args.f.reason 100 c.condition.ensures c.in-100.is

pub returns-in-101 : goal.returns-in-101
unfolding join led digits_before
returns-in-101 c = condition_told c.args.f.reason 101 c.condition.ensures c.in-101.is

pub returns-in-102 : goal.returns-in-102
unfolding join led digits_before
returns-in-102 c = condition_told c.args.f.reason 102 c.condition.ensures c.in-102.is

pub returns-in-103 : goal.returns-in-103
unfolding join led digits_before
returns-in-103 c = condition_told c.args.f.reason 103 c.condition.ensures c.in-103.is

pub returns-in-200 : goal.returns-in-200
unfolding join led digits_before
returns-in-200 c = condition_told c.args.f.reason 200 c.condition.ensures c.in-200.is

pub returns-in-201 : goal.returns-in-201
unfolding join led digits_before
returns-in-201 c = condition_told c.args.f.reason 201 c.condition.ensures c.in-201.is

pub returns-in-202 : goal.returns-in-202
unfolding join led digits_before
returns-in-202 c = condition_told c.args.f.reason 202 c.condition.ensures c.in-202.is

pub returns-in-203 : goal.returns-in-203
unfolding join led digits_before
returns-in-203 c = condition_told c.args.f.reason 203 c.condition.ensures c.in-203.is

pub returns-in_default : goal.returns-in_default
unfolding join led digits_before
returns-in_default c =
    condition_told c.args.f.reason 0 c.condition.ensures
    (condition-other c.args.f.reason c.condition.result c.condition.ensures (search rules))
