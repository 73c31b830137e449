-- `header_leaf`: the header's fields counted their own way.
use mathlib.Core.Bool.{not}
use mathlib.Core.Path.{ap}
use Rattle.seek.specs.Told.{found_told}
use mathlib.Core.Path.{◌∙◌}
use lib.ListN.{take, drop}
use Rattle.text.specs.Bytes.{within}
use Rattle.seek.proofs.Lying.{header-third, header-none, header-first, header-second, clip_length}
use Rattle.seek.proofs.header_leaf.Goals as goal

pub returns-then-n-ge3 : goal.returns-then-n-ge3
returns-then-n-ge3 c = header-third c.args.q c.args.n c.args.s.start (within c.args.s.start c.args.s.end c.args.m.now) (found_told c.leaf_behind.result)
    c.requires.of_header c.if-n-ge3.true c.leaf_behind.ensures

pub returns-then-not-n : goal.returns-then-not-n
returns-then-not-n c = (header-none c.args.q c.args.n.repetition c.args.n.component c.args.n.subcomponent c.args.s.start (within c.args.s.start c.args.s.end c.args.m.now) c.requires.of_header c.args.n.field c.if-n-ge3.false (ap not c.if-not-n.true))

pub returns-then-n-eq1 : goal.returns-then-n-eq1
returns-then-n-eq1 c = let s = within c.args.s.start c.args.s.end c.args.m.now in
    c.clip.ensures (drop 3 (take 4 s)) (clip_length c.args.m.now c.args.s.start c.args.s.end c.requires.inside.0.0 c.requires.inside.0.1 3 4)
    ∙ (header-first c.args.q c.args.n.repetition c.args.n.component c.args.n.subcomponent c.args.s.start s c.requires.of_header c.args.n.field c.if-n-eq1.true (ap not c.if-not-n.false))

pub returns : goal.returns
returns c = let s = within c.args.s.start c.args.s.end c.args.m.now in
    c.clip-2.ensures (drop 4 (take 8 s)) (clip_length c.args.m.now c.args.s.start c.args.s.end c.requires.inside.0.0 c.requires.inside.0.1 4 8)
    ∙ (header-second c.args.q c.args.n.repetition c.args.n.component c.args.n.subcomponent c.args.s.start s c.requires.of_header c.args.n.field c.requires.inside.1 c.if-n-ge3.false c.if-n-eq1.false (ap not c.if-not-n.false))
