-- `far_end`: sixteen bytes without the separator are passed.
use borrow.Author.Rules.{rules}
use native.Mathlib.Omega.{arith}
use Prim.Native.Nat.{◌+◌}
use mathlib.Core.Path.{sym, ◌∙◌}
use Rattle.parts.proofs.Reach.{none-among}
use Rattle.parts.proofs.far_end.Goals as goal

pub loop-i-preserved : goal.loop-i-preserved
loop-i-preserved c = (
  omega arith,
  sym (none-among c.args.sep c.args.t.now c.loop-i.i (c.loop-i.i + 16) (omega arith) (omega arith) (sym c.contains.ensures.value ∙ search rules)) ∙ c.loop-i.invariant.1,
)
