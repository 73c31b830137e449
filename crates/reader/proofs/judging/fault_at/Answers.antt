-- `fault_at`: what is found where reading stopped is the verdict.
use native.Mathlib.Omega.{arith}
use mathlib.Core.Path.{sym, ◌∙◌}
use Rattle.std.proofs.Common.{Some, Err}
use Rattle.walk.specs.Judged.{number_at}
use Rattle.walk.proofs.Walking.{named-inside}
use Rattle.reader.proofs.Halted.{number-there, IsVerdict, place-verdict, end-verdict, field-verdict, halted_fault}
use Rattle.reader.proofs.judging.fault_at.Goals as goal
use Rattle.reader.proofs.judging.fault_at.Goals.{in-OutOfPlace, in-MayNotEnd, in-FieldBroken+in_ok-found-in-FieldBroken}

pub bounds-m-h-in-FieldBroken : goal.bounds-m-h-in-FieldBroken
bounds-m-h-in-FieldBroken c = omega (arith, named-inside c.args.m.now c.args.h.start c.args.h.end (number_at c.args.m.now c.args.h.start c.args.h.end) c.requires.1)

pub bounds-m-h-in-FieldBroken-2 : goal.bounds-m-h-in-FieldBroken-2
bounds-m-h-in-FieldBroken-2 c = omega (arith, named-inside c.args.m.now c.args.h.start c.args.h.end (number_at c.args.m.now c.args.h.start c.args.h.end) c.requires.1)

pub read_segment-requires : goal.read_segment-requires
read_segment-requires c = (c.requires.0, number-there c.args.m.now c.args.h.start c.args.h.end c.segment_number-number.result c.requires.1 c.segment_number-number.ensures)

pub fault_of-requires : goal.fault_of-requires
fault_of-requires c = (named-inside c.args.m.now c.args.h.start c.args.h.end (number_at c.args.m.now c.args.h.start c.args.h.end) c.requires.1, c.requires.1.opens)

pub returns : goal.returns
returns c =
    let found : IsVerdict c.args.table.now c.args.m.now c.args.h (Err c.match-h.found) = elim c.match-h.branch [
      | in-OutOfPlace w ↦ rw (w.found-is, w.of_segment-found.ensures) (place-verdict c.args.table.now c.args.m.now c.args.h w.in-OutOfPlace.is)
      | in-MayNotEnd w ↦ rw (w.found-is, w.of_segment-found-in-MayNotEnd.ensures) (end-verdict c.args.table.now c.args.m.now c.args.h w.in-MayNotEnd.is)
      | in-FieldBroken+in_ok-found-in-FieldBroken w ↦
          rw w.found-is
          (field-verdict c.args.table.now c.args.m.now c.args.h w.in-FieldBroken.is w.marks_of.result w.marks_of.ensures w.read_segment.result w.read_segment.ensures _
          (sym w.err.ensures.value ∙ w.in_ok-found-in-FieldBroken.was))
    ] in
    halted_fault c.args.table.now c.args.m.now c.args.h c.match-h.found found c.requires.1 (Some c.fault_of.result) c.fault_of.ensures
