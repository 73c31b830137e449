-- `type_rows`: the rows under the type's number list its leaves.
use native.Mathlib.Omega.{arith}
use Rattle.codes.proofs.Numbered.{type_number_range}
use Rattle.codes.proofs.Rules.{type-lists}
use Rattle.codes.proofs.rows.type_rows.Goals as goal

pub rows_under-requires : goal.rows_under-requires
rows_under-requires c = let b = type_number_range c.args.name.now in
    (c.requires, (omega (arith, c.type_number.ensures, b.0), omega (arith, c.type_number.ensures, b.1)))

pub returns : goal.returns
returns c = type-lists c.args.table.now c.args.name.now c.type_number.result c.rows_under.result c.requires.lists c.type_number.ensures c.rows_under.ensures
