-- `leaves_pass`: nothing is broken before the row where the loop stands.
use lib.ListN.{length}
use mathlib.Core.Path.{refl, sym, ◌∙◌}
use Rattle.checks.specs.Place.{place}
use Rattle.fields.specs.Flat.{passed_once}
use Rattle.leaves.proofs.Breaks.{told_none, none_yet}
use Rattle.text.specs.Bytes.{within}
use Rattle.text.proofs.Tests.{both}
use Rattle.cursor.proofs.Moving.{cursor-inside}
use Rattle.leaves.proofs.LeafByLeaf.{reading-number, reading-reason, reading-missing, reading-none}
use Rattle.fields.proofs.FlatField.{flat_measured, flat_on, not_broken, not-none}
use Rattle.std.specs.Prelude.{Ok}
use Rattle.fields.proofs.flat.leaves_pass.Goals as goal
use Rattle.fields.proofs.flat.leaves_pass.Goals.{else-not-takes_any-via-then-not-takes_any+else-is_err as judged, else-not-takes_any-via-else-not-takes_any as any_text}

pub advance-cursor-requires : goal.advance-cursor-requires
advance-cursor-requires c = (c.loop-at.invariant.piece, reading-number c.loop-at.invariant c.loop-at-test.true)

pub slice_bounds-leaf-end : goal.slice_bounds-leaf-end
slice_bounds-leaf-end c = (cursor-inside _ _ _ c.advance-cursor.ensures.0).1

pub returns : goal.returns
returns c = λ e. rw e at (reading-none c.loop-at.invariant c.loop-at-test.false)

pub plain_reason-requires-clause-known_reason : goal.plain_reason-requires-clause-known_reason
plain_reason-requires-clause-known_reason c = reading-reason c.loop-at.invariant c.loop-at-test.true

pub returns-then-cursor-number : goal.returns-then-cursor-number
returns-then-cursor-number c = λ e.
    let b = both c.missing_leaves-r.result.filled c.is_none.result e in
    let none = none_yet _ _ c.is_none.ensures b.1 in
    reading-missing c.loop-at.invariant c.loop-at-test.true c.if-cursor-number.true refl passed_once
    (record {
      handed-on = sym b.0 ∙ c.missing_leaves-r.ensures.handed-on;
      first = λ p n o f j. sym (told_none (place n o f j) c.missing_leaves-r.result.broken none) ∙ c.missing_leaves-r.ensures.first p n o f j;
    })

pub loop-at-preserved : goal.loop-at-preserved
loop-at-preserved c =
    let x = within c.advance-cursor.result.start c.advance-cursor.result.end c.args.s.now in
    let measured = flat_measured c.loop-at.invariant c.loop-at-test.true c.requires.1 c.if-table-at-ne1.false c.advance-cursor.ensures in
    rw (c.is_empty.ensures, not-none (length x))
    (elim c.else-not-takes_any.branch [
      | judged w ↦
          flat_on c.loop-at.invariant c.loop-at-test.true c.requires.1 c.if-table-at-ne1.false c.advance-cursor.ensures
          w.plain_reason.result (w.plain_reason.ensures c.args.q measured) (not_broken _ (sym w.is_err.ensures.value ∙ w.if-is_err.false))
      | any_text w ↦
          flat_on c.loop-at.invariant c.loop-at-test.true c.requires.1 c.if-table-at-ne1.false c.advance-cursor.ensures
          (Ok tt) (c.takes_any.ensures w.if-not-takes_any.false c.args.q x measured) refl
    ])
