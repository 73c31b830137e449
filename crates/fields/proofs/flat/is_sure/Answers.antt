-- `is_sure`: the first row says how long a text may be.
use Prim.Native.Nat.{◌+◌, ◌≤◌}
use native.Mathlib.Omega.{arith}
use mathlib.Core.Bool.{not}
use lib.ListN.{length, get_or}
use lib.Dec.{eqb, leb}
use borrow.Author.Tests as tests
use borrow.Author.Tests.{leb-true, eqb-false}
use Rattle.text.proofs.Tests.{both}
use Rattle.profile.specs.Numbers.{sure_column}
use Rattle.fields.proofs.Sure.{sure-reads}
use Rattle.fields.proofs.flat.is_sure.Goals as goal

pub returns : goal.returns
returns c = λ e.
    let n = get_or c.args.table.now (c.args.rows.start + sure_column) 0 in
    let b = both (leb (length c.args.s.now) n) (not (eqb (get_or c.args.s.now 0 0) c.args.q.component)) e in
    let short : length c.args.s.now ≤ n = leb-true (length c.args.s.now) n b.0 in
    let filled : 1 ≤ length c.args.s.now = omega (arith, c.if-s-eq0.false) in
    sure-reads c.args.q c.args.s.now c.requires.1 filled (eqb-false (get_or c.args.s.now 0 0) c.args.q.component (tests.not-true _ b.1)) n short
    (c.requires.0.sure (omega arith))
