-- `leaf`: the header's way, or that of any other segment.
use Rattle.seek.specs.Told.{found_told}
use mathlib.Core.Path.{sym, ◌∙◌}
use Rattle.text.specs.Bytes.{within}
use Rattle.seek.proofs.Lying.{leaf_fields}
use Rattle.seek.proofs.leaf.Goals as goal

pub returns : goal.returns
returns c = leaf_fields c.args.q c.args.n c.args.s.start (within c.args.s.start c.args.s.end c.args.m.now) (found_told c.leaf_behind.result)
    (sym c.is_header.ensures ∙ c.if-is_header.false) c.leaf_behind.ensures
