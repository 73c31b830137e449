-- `rows_under`: the index holds where they begin and end.
use Rattle.codes.proofs.Stretch.{under-rows}
use Rattle.codes.proofs.rows.rows_under.Goals as goal

pub returns : goal.returns
returns c = under-rows c.args.table.now c.requires.0 c.args.k c.requires.1.0 c.requires.1.1
