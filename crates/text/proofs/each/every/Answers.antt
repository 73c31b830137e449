-- `every`: what was seen and what is left decide together.
use borrow.Author.Rules.{rules}
use mathlib.Core.Path.{sym, ◌∙◌}
use lib.ListN.{get_or}
use Rattle.text.specs.Bytes.{every}
use Rattle.text.proofs.Lists.{every-seen, every-end, and-true}
use Rattle.text.proofs.each.every.Goals as goal

pub loop-b-preserved : goal.loop-b-preserved
loop-b-preserved g c = λ p h.
    every-seen p c.args.t.now c.loop-b.b-index c.loop-b.ok c.test-ok.result (every p c.args.t.now) (search rules)
    (h (get_or c.args.t.now c.loop-b.b-index 0) c.test-ok.result (search rules) c.test-ok.ensures) (c.loop-b.invariant p h)

pub returns : goal.returns
returns g c = λ p h.
    sym (and-true c.loop-b.ok) ∙ (rw (every-end p c.args.t.now c.loop-b.b-index c.loop-b-test.false) at (c.loop-b.invariant p h))
