-- `find`: the frame's refusals, then the place's, then what is found.
use mathlib.Core.Bool.{not}
use mathlib.Core.Path.{ap, sym, ◌∙◌}
use Rattle.std.proofs.lemmas.Result.{err_from_is_err_and}
use Rattle.seek.specs.Told.{found_told}
use Rattle.reader.specs.Told.{place_of}
use Rattle.reader.proofs.Seek.{standing-inside}
use Rattle.reader.proofs.LookUp.{place-numbers, looked_frame, looked_place, looked-segment, looked-found}
use Rattle.reader.proofs.search.find.Goals as goal

pub returns-in_err-check : goal.returns-in_err-check
returns-in_err-check c = let r = err_from_is_err_and c.from_residual.result c.from_residual.ensures.1 in
    rw (r.1, r.2) (looked_frame c.args.m.now c.args.p c.check.result c.check.ensures c.in_err-check.field-0.0 c.in_err-check.was)

pub returns-then-not-is_place : goal.returns-then-not-is_place
returns-then-not-is_place c = looked_place c.args.m.now c.args.p c.check.result c.check.ensures _ c.in_ok-check.was
    c.is_place.result c.is_place.ensures (ap not c.if-not-is_place.true)

pub returns-in_err-s : goal.returns-in_err-s
returns-in_err-s c = let r = err_from_is_err_and c.from_residual-in_err-s.result c.from_residual-in_err-s.ensures.1 in
    rw (r.1, r.2)
    (looked-segment c.args.m.now c.args.p c.check.result c.check.ensures _ c.in_ok-check.was
    c.is_place.result c.is_place.ensures (ap not c.if-not-is_place.false) c.occurrence.result c.in_err-s.field-0.0 c.occurrence.ensures c.in_err-s.ensures.value)

pub leaf-requires : goal.leaf-requires
leaf-requires c = (
  standing-inside c.args.m.now (place_of c.args.p).name c.args.p.occurrence c.in_ok-s.s (sym c.in_ok-s.ensures.ok_part ∙ c.occurrence.ensures),
  rw c.from.ensures (place-numbers (place_of c.args.p) c.is_place.result c.is_place.ensures (ap not c.if-not-is_place.false)).1,
)

pub returns : goal.returns
returns c = looked-found c.args.m.now c.args.p c.check.result c.check.ensures _ c.in_ok-check.was
    c.is_place.result c.is_place.ensures (ap not c.if-not-is_place.false) c.in_ok-s.s c.marks_of.result c.from.result (found_told c.leaf.result)
    (sym c.in_ok-s.ensures.ok_part ∙ c.occurrence.ensures) c.marks_of.ensures c.from.ensures c.leaf.ensures
