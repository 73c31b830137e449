-- `one_leaf_passes`: the reading of the one row's leaf, which is the first component.
use mathlib.Core.Path.{◌≡◌, sym, ◌∙◌}
use mathlib.Core.Bool.{true, not}
use Prim.Native.Nat.{◌+◌, ◌-◌, ◌≤◌, ◌<◌}
use native.Mathlib.Omega.{arith}
use lib.ListN.{length, get_or}
use lib.Dec.{eqb, ltb}
use borrow.Author.Tests as tests
use borrow.Author.Tests.{eqb-true, lt-ltb}
use Rattle.text.specs.Bytes.{within}
use Rattle.text.proofs.Lists.{or-none}
use Rattle.cursor.specs.Cursor.{IsPiece}
use Rattle.cursor.proofs.Moving.{cursor-inside}
use Rattle.profile.specs.Numbers.{row_size, component_column, subcomponent_column}
use Rattle.leaves.proofs.LeafByLeaf.{Reading, nothing, reading-first, reading-reason, reading-none}
use Rattle.leaves.proofs.LeafRule.{bytes_some}
use Rattle.fields.proofs.FlatField.{flat_measured, flat_on, is_good}
use Rattle.fields.proofs.flat.one_leaf_passes.Goals as goal

pub slice_bounds-leaf-end : goal.slice_bounds-leaf-end
slice_bounds-leaf-end c = (cursor-inside _ _ _ c.first_piece-first.ensures.0).1

pub returns-then-not-is_empty : goal.returns-then-not-is_empty
returns-then-not-is_empty c e = let here : Reading c.args.s.now c.args.q c.args.table.now c.args.rows.start c.args.rows.end nothing c.first_piece-first.result c.args.rows.start = reading-first c.requires.lists.0 c.first_piece-first.ensures in
    let more : row_size ≤ c.args.rows.end - c.args.rows.start = omega (arith, c.requires.one_row) in
    let columns : (get_or c.args.table.now (c.args.rows.start + component_column) 0 ≡ 1) × (get_or c.args.table.now (c.args.rows.start + subcomponent_column) 0 ≡ 1) = let a = get_or c.args.table.now (c.args.rows.start + component_column) 0 in
    let b = get_or c.args.table.now (c.args.rows.start + subcomponent_column) 0 in
    let n = or-none (not (eqb a 1)) (not (eqb b 1)) c.if-table-at.false in
    (eqb-true a 1 (tests.not-false (eqb a 1) n.0), eqb-true b 1 (tests.not-false (eqb b 1) n.1)) in
    let moved : IsPiece c.args.q.component c.args.s.now c.first_piece-first.result × (c.first_piece-first.result.number ≡ get_or c.args.table.now (c.args.rows.start + component_column) 0) = (c.first_piece-first.ensures.0, c.first_piece-first.ensures.1 ∙ sym (columns).0) in
    let text = within c.first_piece-first.result.start c.first_piece-first.result.end c.args.s.now in
    let some : ltb 0 (length text) ≡ true = lt-ltb 0 (length text) (omega (arith, bytes_some text _ c.is_empty.ensures c.if-not-is_empty.true)) in
    let last : c.args.rows.end - (c.args.rows.start + row_size) < row_size = omega (arith, c.requires.one_row) in
    rw some at (reading-none (flat_on (here) (more) c.requires.lists.1 (columns).1 (moved) c.plain_reason.result
    (c.plain_reason.ensures c.args.q (flat_measured (here) (more) c.requires.lists.1 (columns).1 (moved))) (is_good c.plain_reason.result (sym c.is_ok.ensures.value ∙ e))) last)

pub plain_reason-requires-clause-known_reason : goal.plain_reason-requires-clause-known_reason
plain_reason-requires-clause-known_reason c =
    let here : Reading c.args.s.now c.args.q c.args.table.now c.args.rows.start c.args.rows.end nothing c.first_piece-first.result c.args.rows.start = reading-first c.requires.lists.0 c.first_piece-first.ensures in
    let more : row_size ≤ c.args.rows.end - c.args.rows.start = omega (arith, c.requires.one_row) in
    reading-reason here more
