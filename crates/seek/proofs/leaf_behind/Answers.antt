-- `leaf_behind`: the descent from a segment's fields down.
use Prim.Native.Nat.{◌+◌}
use lib.ListN.{drop}
use Rattle.parts.specs.Span.{part_text, part_start}
use Rattle.text.specs.Bytes.{within}
use Rattle.parts.specs.Span.{steps_from}
use Rattle.seek.proofs.Lying.{behind-short, behind-reached}
use Rattle.seek.proofs.leaf_behind.Goals as goal

pub returns-then-s-skip : goal.returns-then-s-skip
returns-then-s-skip c = (behind-short c.args.m.now c.args.s.start c.args.s.end c.args.skip c.requires.0 c.requires.1 c.args.q c.args.n c.if-s-skip.true)

pub returns : goal.returns
returns c = let ss = steps_from c.args.q c.args.n 4 in
    let t = drop c.args.skip (within c.args.s.start c.args.s.end c.args.m.now) in
    c.between.ensures (c.args.s.start + (c.args.skip + part_start ss t)) (part_text ss t)
    (behind-reached c.args.m.now c.args.s.start c.args.s.end c.args.skip c.requires.0 c.requires.1 c.args.q c.args.n c.descend.result c.descend.ensures)
