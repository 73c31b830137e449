-- `flat_passes`: a flat field is its only repetition.
use Rattle.codes.specs.Inner.{leaves_at}
use Rattle.fields.proofs.FlatField.{flat-reads}
use Rattle.fields.proofs.flat.flat_passes.Goals as goal

pub returns-then-is_sure : goal.returns-then-is_sure
returns-then-is_sure c = λ e.
    flat-reads c.args.q (leaves_at c.args.table.now c.args.rows) c.args.x.now c.requires.1 (c.is_sure.ensures c.if-is_sure.true)

pub returns-then-rows-eq-ROW : goal.returns-then-rows-eq-ROW
returns-then-rows-eq-ROW c = λ e.
    flat-reads c.args.q (leaves_at c.args.table.now c.args.rows) c.args.x.now c.requires.1 (c.one_leaf_passes.ensures e)

pub returns : goal.returns
returns c = λ e.
    flat-reads c.args.q (leaves_at c.args.table.now c.args.rows) c.args.x.now c.requires.1 (c.leaves_pass.ensures e)
