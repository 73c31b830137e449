-- `tell`: the lines of the lists, or the line that says that there is none.
use Rattle.std.proofs.Common.{arith}
use Rattle.page.proofs.Page.{page-fits}
use Rattle.codelists.proofs.Told.{puts-none-listed, puts-some-listed}
use Rattle.codelists.proofs.tell.Goals as goal

pub put_lists-end-requires-clause-room : goal.put_lists-end-requires-clause-room
put_lists-end-requires-clause-room c =
    omega (arith, page-fits c.args.name.now c.args.field c.args.component, c.requires)

pub returns-then-end-eq0 : goal.returns-then-end-eq0
returns-then-end-eq0 c =
    puts-none-listed c.args.name.now c.args.field c.args.component c.put_lists-end.ensures c.if-end-eq0.true c.put.ensures

pub returns : goal.returns
returns c = puts-some-listed c.args.name.now c.args.field c.args.component c.put_lists-end.ensures c.if-end-eq0.false
