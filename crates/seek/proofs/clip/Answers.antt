-- `clip`: told by the length of what stands there.
use mathlib.Core.Path.{◌∙◌}
use Prim.Native.Nat.{◌+◌, ◌-◌, min}
use Rattle.seek.proofs.Lying.{shown-clipped, clipped}
use Rattle.seek.proofs.clip.Goals as goal

pub returns : goal.returns
returns c = λ t e.
    let k = c.args.s.start in
    let l = c.args.s.end - k in
    c.between.ensures (k + min c.args.a l) t (rw (c.min.ensures, c.min-2.ensures, clipped k c.args.a c.args.b l t c.requires.1 e))
    ∙ shown-clipped k c.args.a c.args.b l t c.requires.1 e
