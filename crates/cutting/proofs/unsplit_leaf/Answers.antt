-- `unsplit_leaf`: no bytes beyond component 1, else the field's own bytes.
use mathlib.Core.Path.{◌∙◌}
use Rattle.cutting.proofs.Cutting.{unsplit-beyond, unsplit-first, unsplit-second}
use Rattle.cutting.proofs.unsplit_leaf.Goals as goal

pub returns-then-component-ne1 : goal.returns-then-component-ne1
returns-then-component-ne1 c = λ q. (unsplit-beyond c.args.s.now c.requires.0 c.args.field c.args.component c.requires.1.1 q c.if-component-ne1.true)

pub returns-then-field-eq1 : goal.returns-then-field-eq1
returns-then-field-eq1 c = λ q. (c.clip.ensures ∙ unsplit-first c.args.s.now c.requires.0 c.args.field c.args.component c.requires.1.1 q c.if-component-ne1.false c.if-field-eq1.true)

pub returns : goal.returns
returns c = λ q. (c.clip-2.ensures ∙ unsplit-second c.args.s.now c.requires.0 c.args.field c.args.component c.requires.1.1 q c.if-component-ne1.false c.requires.1.0 c.if-field-eq1.false)
