-- `fields_from`: the header's fields counted their own way.
use Prim.Native.Nat.{◌≤◌}
use mathlib.Core.Path.{sym, ◌∙◌}
use native.Mathlib.Omega.{arith}
use Rattle.cutting.proofs.Cutting.{split-third, split-fields, other-fields}
use Rattle.cutting.proofs.fields_from.Goals as goal

pub overflow_sub-field : goal.overflow_sub-field
overflow_sub-field c = let split : 3 ≤ c.args.field = split-third c.args.s.now c.args.field (sym c.is_header.ensures ∙ c.if-is_header.true) c.requires.1 in
    omega (arith, split)

pub overflow_sub-field-then-is_header : goal.overflow_sub-field-then-is_header
overflow_sub-field-then-is_header c = let split : 3 ≤ c.args.field = split-third c.args.s.now c.args.field (sym c.is_header.ensures ∙ c.if-is_header.true) c.requires.1 in
    omega (arith, split)

pub returns-then-is_header : goal.returns-then-is_header
returns-then-is_header c = split-fields c.args.s.now c.args.field (sym c.is_header.ensures ∙ c.if-is_header.true) c.requires.1 c.args.q _
    (rw c.skip.ensures at c.behind.ensures)

pub returns : goal.returns
returns c = other-fields c.args.q c.args.s.now c.args.field _ (sym c.is_header.ensures ∙ c.if-is_header.false) c.requires.0
    (rw c.skip-2.ensures at c.behind-2.ensures)
