-- `read_repetition`: whether the repetition is filled and its first broken check are told from where the loop stands.
use mathlib.Core.Path.{◌≡◌}
use Prim.Native.Nat.{◌+◌}
use borrow.Author.Rules.{rules}
use lib.ListN.{get_or}
use Rattle.profile.specs.Numbers.{component_column, subcomponent_column}
use Rattle.cursor.proofs.Moving.{cursor-inside}
use Rattle.leaves.proofs.LeafByLeaf.{reading-first, reading-number, reading-reason, reading-missing, reading-broken, reading-judged, reading-passed, reading-none, piece_inside}
use Rattle.leaves.proofs.Breaks.{broken_at, leaf_made, none_yet, one_before}
use Rattle.leaves.proofs.repetition.read_repetition.Goals as goal
use Rattle.leaves.proofs.repetition.read_repetition.Goals.{then-is_none-2, else-is_none-2}

pub loop-at-init : goal.loop-at-init
loop-at-init c = reading-first c.requires c.first_piece-cursor.ensures

pub advance-cursor-requires : goal.advance-cursor-requires
advance-cursor-requires c = (c.loop-at.invariant.piece, reading-number c.loop-at.invariant c.loop-at-test.true)

pub slice_bounds-part-end : goal.slice_bounds-part-end
slice_bounds-part-end c = (cursor-inside _ _ _ c.advance-cursor.ensures.0).1

pub slice_bounds-leaf_reason-end : goal.slice_bounds-leaf_reason-end
slice_bounds-leaf_reason-end c = (piece_inside (get_or c.args.table.now (c.loop-at.at + subcomponent_column) 0) _ _ c.piece-leaf.ensures).1

pub returns : goal.returns
returns c = reading-none c.loop-at.invariant c.loop-at-test.false

pub leaf_reason-judged-requires-clause-known_reason : goal.leaf_reason-judged-requires-clause-known_reason
leaf_reason-judged-requires-clause-known_reason c = reading-reason c.loop-at.invariant c.loop-at-test.true

pub returns-then-is_none : goal.returns-then-is_none
returns-then-is_none c =
    reading-missing c.loop-at.invariant c.loop-at-test.true c.if-cursor-number.true (none_yet _ _ c.is_none.ensures c.if-is_none.true) _ c.missing_leaves.ensures

pub returns-then-cursor-number : goal.returns-then-cursor-number
returns-then-cursor-number c =
    reading-broken c.loop-at.invariant c.loop-at-test.true c.if-cursor-number.true (one_before _ _ c.is_none.ensures c.if-is_none.false)

pub loop-at-preserved : goal.loop-at-preserved
loop-at-preserved c =
    elim c.if-is_none-2.branch [
      | then-is_none-2 x ↦
          let component = get_or c.args.table.now (c.loop-at.at + component_column) 0 in
          let subcomponent = get_or c.args.table.now (c.loop-at.at + subcomponent_column) 0 in
          let made : x.map-found.result ≡ broken_at x.leaf_reason-judged.result component subcomponent =
          leaf_made _ _ _ component subcomponent _ x.err.ensures.value (λ r leaf h. search rules) x.map-found.ensures.cases
          in
          rw (x.found-is, made)
          (reading-judged c.loop-at.invariant c.loop-at-test.true c.advance-cursor.ensures c.piece-leaf.ensures
          (none_yet _ _ c.is_none-in-loop-at.ensures x.if-is_none-2.true) _ x.leaf_reason-judged.ensures)
      | else-is_none-2 x ↦
          rw x.found-is
          (reading-passed c.loop-at.invariant c.loop-at-test.true c.advance-cursor.ensures c.piece-leaf.ensures
          (one_before _ _ c.is_none-in-loop-at.ensures x.if-is_none-2.false))
    ]
