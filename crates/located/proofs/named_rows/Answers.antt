-- `named_rows`: the rows of the type that the field's first leaf names.
use Rattle.located.proofs.FieldLeaves.{lists-type}
use Rattle.located.proofs.named_rows.Goals as goal

pub returns : goal.returns
returns c = lists-type c.args.q c.args.table.now c.args.s.now c.args.k c.requires.sound.1 c.args.number c.requires.no_lower c.type_rows.result
    c.field_text-x.result.now c.field_text-x.ensures c.first_leaf-to.result c.first_leaf-to.ensures.first_leaf_text c.type_rows.ensures
