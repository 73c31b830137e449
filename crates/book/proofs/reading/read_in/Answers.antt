-- `read_in`: the fields one after another; whether it is a slip, and the tag's value, are told from the field that comes next.
use mathlib.Core.Bool.{not}
use mathlib.Core.Path.{ap, sym, ◌∙◌}
use Rattle.std.proofs.Common.{Some}
use Rattle.std.proofs.lemmas.Result.{err_from_is_err_and}
use Rattle.tags.proofs.SlipField.{field_as}
use Rattle.book.proofs.ReadSlip.{read_none, read-bad, read_here, read_past, read_no_slip, read_count, read_found}
use Rattle.book.proofs.reading.read_in.Goals as goal
use Rattle.book.proofs.reading.read_in.Goals.{else-tag-from, then-tag-from}

pub loop-k-init : goal.loop-k-init
loop-k-init c = read_none c.args.s.now c.args.base c.args.tag

pub returns-in_err-end : goal.returns-in_err-end
returns-in_err-end c = let r = err_from_is_err_and c.from_residual.result c.from_residual.ensures.1 in
    rw (r.1, r.2)
    (read-bad c.args.s.now c.args.base c.args.tag c.loop-k.found c.loop-k.at c.loop-k.k c.loop-k.invariant c.loop-k-test.true
    c.read_tag.result c.in_err-end.field-0.0 c.read_tag.ensures c.in_err-end.ensures.value)

pub loop-k-preserved : goal.loop-k-preserved
loop-k-preserved c =
    let w = field_as c.args.s.now c.loop-k.at c.loop-k.k c.read_tag.result (Some c.in_ok-end.end) c.in_ok-end.ensures.ok_part c.read_tag.ensures in
    elim c.if-tag-from.branch [
      | then-tag-from z ↦
          rw (z.found-is, z.value_in.ensures)
          (read_here c.args.s.now c.args.base c.args.tag c.loop-k.found c.loop-k.at c.loop-k.k c.loop-k.invariant c.loop-k-test.true _ w
          (rw c.from.ensures at z.if-tag-from.true))
      | else-tag-from z ↦
          rw z.found-is
          (read_past c.args.s.now c.args.base c.args.tag c.loop-k.found c.loop-k.at c.loop-k.k c.loop-k.invariant c.loop-k-test.true _ w
          (rw c.from.ensures at z.if-tag-from.false))
    ]

pub returns-then-not-ends_well : goal.returns-then-not-ends_well
returns-then-not-ends_well c =
    read_no_slip c.args.s.now c.args.base c.args.tag c.loop-k.found c.loop-k.at c.loop-k.k c.loop-k.invariant c.loop-k-test.false
    c.ends_well.result c.ends_well.ensures (ap not c.if-not-ends_well.true)

pub returns-then-tag-from-2 : goal.returns-then-tag-from-2
returns-then-tag-from-2 c =
    rw c.value_in-then-tag-from-2.ensures
    (read_count c.args.s.now c.args.base c.args.tag c.loop-k.found c.loop-k.at c.loop-k.k c.loop-k.invariant c.loop-k-test.false
    c.ends_well.result c.ends_well.ensures (ap not c.if-not-ends_well.false) (c.if-tag-from-2.true ∙ c.from-2.ensures))

pub returns : goal.returns
returns c =
    rw c.ok_or-2.ensures.value
    (read_found c.args.s.now c.args.base c.args.tag c.loop-k.found c.loop-k.at c.loop-k.k c.loop-k.invariant c.loop-k-test.false
    c.ends_well.result c.ends_well.ensures (ap not c.if-not-ends_well.false) (λ e. c.if-tag-from-2.false (e ∙ sym c.from-2.ensures)))
