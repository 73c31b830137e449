-- `plain_reason`: the first test that fails is the first broken check.
use mathlib.Core.Bool.{not}
use mathlib.Core.Path.{ap}
use Rattle.std.proofs.lemmas.Result.{err_from_is_err_and}
use Rattle.leaves.proofs.LeafRule.{bytes_none, bytes_some, row_reason, rule-missing, rule-empty, rule-long, rule-type, rule-list, rule-good}
use Rattle.leaves.proofs.rule.plain_reason.Goals as goal

pub returns-then-table-at-eq-STARRED : goal.returns-then-table-at-eq-STARRED
returns-then-table-at-eq-STARRED c q measured = rule-missing q c.args.table.now c.args.at c.args.s.now (bytes_none _ _ c.is_empty.ensures c.if-is_empty.true) c.if-table-at-eq-STARRED.true

pub returns-then-is_empty : goal.returns-then-is_empty
returns-then-is_empty c q measured = rule-empty q c.args.table.now c.args.at c.args.s.now (bytes_none _ _ c.is_empty.ensures c.if-is_empty.true) c.if-table-at-eq-STARRED.false

pub returns-then-table-at : goal.returns-then-table-at
returns-then-table-at c q measured = rule-long q c.args.table.now c.args.at c.args.s.now (bytes_some _ _ c.is_empty.ensures c.if-is_empty.false) c.args.n measured c.if-table-at.true

pub returns-in_err-type_reason : goal.returns-in_err-type_reason
returns-in_err-type_reason c q measured p =
    let e = err_from_is_err_and c.from_residual.result c.from_residual.ensures.1 in
    rw (e.1, e.2)
    (rule-type q c.args.table.now c.args.at c.args.s.now (bytes_some _ _ c.is_empty.ensures c.if-is_empty.false) c.args.n measured c.if-table-at.false
    c.type_reason.result c.type_reason.ensures c.in_err-type_reason.field-0.0 c.in_err-type_reason.was p)

pub list_reason-requires : goal.list_reason-requires
list_reason-requires c = row_reason c.args.table.now c.args.at c.args.s.now _ c.is_in_list.ensures (ap not c.if-not-is_in_list.true) c.requires.known_reason

pub returns-then-not-is_in_list : goal.returns-then-not-is_in_list
returns-then-not-is_in_list c q measured = rule-list q c.args.table.now c.args.at c.args.s.now (bytes_some _ _ c.is_empty.ensures c.if-is_empty.false) c.args.n measured c.if-table-at.false
    c.type_reason.result c.type_reason.ensures c.in_ok-type_reason.was _ c.is_in_list.ensures (ap not c.if-not-is_in_list.true) _ c.list_reason.ensures

pub returns : goal.returns
returns c q measured = rule-good q c.args.table.now c.args.at c.args.s.now (bytes_some _ _ c.is_empty.ensures c.if-is_empty.false) c.args.n measured c.if-table-at.false
    c.type_reason.result c.type_reason.ensures c.in_ok-type_reason.was _ c.is_in_list.ensures (ap not c.if-not-is_in_list.false)
