-- `takes_any`: the tests that are left are of the text's length.
use Prim.Native.Nat.{◌+◌}
use mathlib.Core.Bool.{◌&&◌}
use lib.ListN.{get_or}
use lib.Dec.{eqb, ltb, leb}
use borrow.Author.Tests.{eqb-true, ltb-true, leb-true}
use Rattle.profile.specs.Numbers.{limit_column, list_column, type_column}
use Rattle.text.proofs.Tests.{both}
use Rattle.leaves.proofs.LeafRule.{rule-any}
use Rattle.leaves.proofs.rule.takes_any.Goals as goal

pub returns : goal.returns
returns c = λ e q s measured p.
    let type = get_or c.args.table.now (c.args.at + type_column) 0 in
    let list = get_or c.args.table.now (c.args.at + list_column) 0 in
    let most = get_or c.args.table.now (c.args.at + limit_column) 0 in
    let x = both (ltb 0 c.args.n) (leb c.args.n most && (ltb 4 type && eqb list 0)) e in
    let y = both (leb c.args.n most) (ltb 4 type && eqb list 0) x.1 in
    let z = both (ltb 4 type) (eqb list 0) y.1 in
    rule-any q c.args.table.now c.args.at s c.args.n measured (ltb-true 0 c.args.n x.0) (leb-true c.args.n most y.0) (ltb-true 4 type z.0) (eqb-true list 0 z.1) p
