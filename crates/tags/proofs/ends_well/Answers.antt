-- `ends_well`: the tests are those of the definition, in its order.
use borrow.Author.Rules.{rules}
use Rattle.tags.specs.Fields.{is_zero}
use Rattle.tags.proofs.SlipField.{ends_as}
use Rattle.tags.proofs.ends_well.Goals as goal

pub returns : goal.returns
returns c = ends_as c.args.s.now c.args.at c.from_two_bytes-size.result c.from_two_bytes-count.result c.every.result
    c.from_two_bytes-size.ensures c.from_two_bytes-count.ensures (c.every.ensures is_zero (λ b r h e. search rules))
