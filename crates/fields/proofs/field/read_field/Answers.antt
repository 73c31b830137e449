-- `read_field`: the answer is told from the repetition where the loop stands.
use Prim.Native.Nat.{◌+◌}
use mathlib.Core.Path.{◌≡◌}
use mathlib.Core.List.{List, [], ◌∷◌}
use borrow.Author.Rules.{rules}
use native.Mathlib.Omega.{arith}
use lib.ListN.{drop}
use Rattle.text.specs.Bytes.{Text, within}
use Rattle.parts.specs.Split.{split}
use Rattle.parts.proofs.Reach.{end-inside, split-on}
use Rattle.codes.specs.Inner.{leaves_at}
use Rattle.leaves.proofs.LeafRule.{bytes_none}
use Rattle.fields.proofs.Repeats.{Repeats, in_repetition, made_there, none_yet, one_before, repeats-none, repeats-kept, repeats_blank, repeats-read, repeats-last, repeats_over, split-whole}
use Rattle.fields.proofs.field.read_field.Goals as goal
use Rattle.fields.proofs.field.read_field.Goals.{then-is_none+then-r as read, then-is_none+else-r as blank, else-is_none as kept}

pub returns-then-is_empty : goal.returns-then-is_empty
returns-then-is_empty c = repeats-none _ _ _ _ (bytes_none _ _ c.is_empty.ensures c.if-is_empty.true)

pub slice_bounds-read_repetition-end : goal.slice_bounds-read_repetition-end
slice_bounds-read_repetition-end c = end-inside c.args.q.repetition c.args.s.now c.loop-number.start c.piece_end-end.result c.loop-number.invariant.start c.piece_end-end.ensures

pub returns-then-s-end : goal.returns-then-s-end
returns-then-s-end c =
    let ls = leaves_at c.args.table.now c.args.rows in
    let number = c.loop-number.number-counter in
    let found = c.loop-number.found in
    let after = c.if-is_none in
    let x = c.args.s.now in
    let p = within c.loop-number.start c.piece_end-end.result x in
    let left : List Text = [] in
    let w : Repeats c.args.q ls x number (p ∷ left) found = rw (split-whole c.args.q.repetition c.args.s.now c.loop-number.start c.piece_end-end.result c.loop-number.invariant.start c.piece_end-end.ensures c.if-s-end.true) at c.loop-number.invariant.repeats in
    let taken : Repeats c.args.q ls x (number + 1) left after.found =
    elim after.branch [
      | read u ↦
          let made : u.map-found.result ≡ in_repetition number u.read_repetition-r.result.broken =
          made_there _ _ number _ (λ leaf here h. search rules) u.map-found.ensures.cases
          in
          rw (u.found-is, made)
          (repeats-read c.args.q ls x number p left found w (none_yet _ _ c.is_none.ensures u.if-is_none.true) _ u.read_repetition-r.ensures u.if-r.true)
      | blank u ↦
          rw u.found-is
          (repeats_blank c.args.q ls x number p left found w (none_yet _ _ c.is_none.ensures u.if-is_none.true) _ u.read_repetition-r.ensures u.if-r.false)
      | kept u ↦ rw u.found-is (repeats-kept c.args.q ls x number p left found w (one_before _ _ c.is_none.ensures u.if-is_none.false))
    ]
    in
    repeats-last c.args.q ls x number c.args.most after.found (omega arith) taken

pub loop-number-preserved : goal.loop-number-preserved
loop-number-preserved c =
    let ls = leaves_at c.args.table.now c.args.rows in
    let number = c.loop-number.number-counter in
    let found = c.loop-number.found in
    let after = c.if-is_none in
    let x = c.args.s.now in
    let p = within c.loop-number.start c.piece_end-end.result x in
    let left : List Text = split c.args.q.repetition (drop (c.piece_end-end.result + 1) c.args.s.now) in
    let w : Repeats c.args.q ls x number (p ∷ left) found = rw (split-on c.args.q.repetition c.args.s.now c.loop-number.start c.piece_end-end.result c.loop-number.invariant.start c.piece_end-end.ensures c.if-s-end.false) at c.loop-number.invariant.repeats in
    let taken : Repeats c.args.q ls x (number + 1) left after.found =
    elim after.branch [
      | read u ↦
          let made : u.map-found.result ≡ in_repetition number u.read_repetition-r.result.broken =
          made_there _ _ number _ (λ leaf here h. search rules) u.map-found.ensures.cases
          in
          rw (u.found-is, made)
          (repeats-read c.args.q ls x number p left found w (none_yet _ _ c.is_none.ensures u.if-is_none.true) _ u.read_repetition-r.ensures u.if-r.true)
      | blank u ↦
          rw u.found-is
          (repeats_blank c.args.q ls x number p left found w (none_yet _ _ c.is_none.ensures u.if-is_none.true) _ u.read_repetition-r.ensures u.if-r.false)
      | kept u ↦ rw u.found-is (repeats-kept c.args.q ls x number p left found w (one_before _ _ c.is_none.ensures u.if-is_none.false))
    ]
    in
    record { start = omega (arith, c.if-s-end.false); repeats = taken }

pub returns-else-s-end : goal.returns-else-s-end
returns-else-s-end c =
    let ls = leaves_at c.args.table.now c.args.rows in
    let number = c.loop-number.number-counter in
    let found = c.loop-number.found in
    let after = c.if-is_none in
    let x = c.args.s.now in
    let p = within c.loop-number.start c.piece_end-end.result x in
    let left : List Text = split c.args.q.repetition (drop (c.piece_end-end.result + 1) c.args.s.now) in
    let w : Repeats c.args.q ls x number (p ∷ left) found = rw (split-on c.args.q.repetition c.args.s.now c.loop-number.start c.piece_end-end.result c.loop-number.invariant.start c.piece_end-end.ensures c.if-s-end.false) at c.loop-number.invariant.repeats in
    let taken : Repeats c.args.q ls x (number + 1) left after.found =
    elim after.branch [
      | read u ↦
          let made : u.map-found.result ≡ in_repetition number u.read_repetition-r.result.broken =
          made_there _ _ number _ (λ leaf here h. search rules) u.map-found.ensures.cases
          in
          rw (u.found-is, made)
          (repeats-read c.args.q ls x number p left found w (none_yet _ _ c.is_none.ensures u.if-is_none.true) _ u.read_repetition-r.ensures u.if-r.true)
      | blank u ↦
          rw u.found-is
          (repeats_blank c.args.q ls x number p left found w (none_yet _ _ c.is_none.ensures u.if-is_none.true) _ u.read_repetition-r.ensures u.if-r.false)
      | kept u ↦ rw u.found-is (repeats-kept c.args.q ls x number p left found w (one_before _ _ c.is_none.ensures u.if-is_none.false))
    ]
    in
    repeats_over c.args.q ls x (number + 1) c.args.most (drop (c.piece_end-end.result + 1) x) after.found c.requires.0 (omega arith) taken
