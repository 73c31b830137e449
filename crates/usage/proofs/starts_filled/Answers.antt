-- `starts_filled`: the field's text is read by the rows of its leaves.
use Rattle.codes.proofs.OneField.{field-low, field-most}
use Rattle.located.specs.Listed.{leaves_of_field}
use Rattle.located.proofs.FieldLeaves.{lists_itself}
use Rattle.usage.proofs.FieldSeen.{filled_is}
use Rattle.usage.proofs.starts_filled.Goals as goal

pub field_text-x-requires : goal.field_text-x-requires
field_text-x-requires c = (c.requires.sound.1, field-low c.args.table.now c.args.k c.args.at c.args.end c.requires.field)

pub read_field-r-requires : goal.read_field-r-requires
read_field-r-requires c = (
  field-most c.args.table.now c.args.k c.args.at c.args.end c.requires.field,
  lists_itself c.args.table.now c.leaf_rows-rows.result (leaves_of_field c.args.q c.args.table.now c.args.s.now c.args.at c.args.end) c.leaf_rows-rows.ensures,
)

pub returns : goal.returns
returns c = filled_is c.args.q c.args.table.now c.args.s.now c.args.k c.args.at c.args.end c.requires.sound.1 (field-low c.args.table.now c.args.k c.args.at c.args.end c.requires.field)
    c.field_text-x.result.now c.field_text-x.ensures c.leaf_rows-rows.result c.leaf_rows-rows.ensures c.read_field-r.result c.read_field-r.ensures
