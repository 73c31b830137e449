-- `put_row`: a row with no list, or with one that is not asked for, has no line.
use native.Mathlib.Omega.{arith}
use Rattle.chart.proofs.CodeByCode.{writes_none}
use Rattle.chart.proofs.RowLines.{reason-fits, no_list, not-asked, is_line}
use Rattle.chart.proofs.row.put_row.Goals as goal

pub returns-then-r : goal.returns-then-r
returns-then-r c = rw (no_list c.args.a.name.now c.args.a.field c.args.a.component c.args.r.segment.now c.args.r.alone c.args.r.table.now c.args.r.start c.if-r.true) (writes_none _ (omega arith))

pub returns-then-not-is_asked : goal.returns-then-not-is_asked
returns-then-not-is_asked c = rw (not-asked c.args.a.name.now c.args.a.field c.args.a.component c.args.r.segment.now c.args.r.alone c.args.r.table.now c.args.r.start c.if-r.false _ c.is_asked.ensures c.if-not-is_asked.true) (writes_none _ (omega arith))

pub put_line-requires-clause-small_reason : goal.put_line-requires-clause-small_reason
put_line-requires-clause-small_reason c = reason-fits c.args.a.name.now c.args.a.field c.args.a.component c.args.r.segment.now c.args.r.alone c.args.r.table.now c.args.r.start c.if-r.false _ c.is_asked.ensures c.requires.known_reason

pub put_line-requires-clause-room : goal.put_line-requires-clause-room
put_line-requires-clause-room c = rw (is_line c.args.a.name.now c.args.a.field c.args.a.component c.args.r.segment.now c.args.r.alone c.args.r.table.now c.args.r.start c.if-r.false _ c.is_asked.ensures c.if-not-is_asked.false) at c.requires.room

pub returns : goal.returns
returns c = rw (is_line c.args.a.name.now c.args.a.field c.args.a.component c.args.r.segment.now c.args.r.alone c.args.r.table.now c.args.r.start c.if-r.false _ c.is_asked.ensures c.if-not-is_asked.false) c.put_line.ensures
