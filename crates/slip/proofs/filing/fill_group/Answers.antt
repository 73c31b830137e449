-- `fill_group`: the texts are copied from where the segments stand, and what is after the OBR is counted.
use native.Mathlib.Omega.{arith}
use mathlib.Core.Path.{◌≡◌}
use Rattle.text.specs.Bytes.{bytes}
use Rattle.text.specs.Marks.{marks_of}
use Rattle.text.specs.declared.marks.Marks.{Marks}
use Rattle.reader.proofs.Seek.{standing-inside}
use Rattle.reader.proofs.Copied.{standing_stood}
use Rattle.slip.proofs.Groups.{group_count}
use Rattle.slip.proofs.GroupSlip.{IsRead, group_fits, group_slip}
use borrow.Author.Rules.{rules}
use Rattle.slip.proofs.filing.fill_group.Goals as goal
use Rattle.slip.proofs.filing.fill_group.Goals.{After-observations}

-- the values, when all is read
read : (c : After-observations) (q : Marks) → q ≡ marks_of c.args.m.now
    → IsRead c.args.m.now c.args.order c.occurrence-header.result c.occurrence-patient.result q
    (record {
      control = c.text_in.result;
      patient = c.text_in-2.result;
      placer = c.text_in-3.result;
      filler = c.text_in-4.result;
      service = c.text_in-5.result;
      count = c.observations.result;
    })
read c q e =
    record {
      marks = e;
      header-stands = c.occurrence-header.ensures;
      patient-stands = c.occurrence-patient.ensures;
      control-text = c.text_in.ensures;
      patient-text = c.text_in-2.ensures;
      placer-text = c.text_in-3.ensures;
      filler-text = c.text_in-4.ensures;
      service-text = c.text_in-5.ensures;
      counted = c.observations.ensures;
    }

pub text_in-requires : goal.text_in-requires
text_in-requires c = (standing_stood c.args.m.now (bytes "MSH") 1 c.occurrence-header.result c.occurrence-header.ensures, omega arith)

pub text_in-requires-2 : goal.text_in-requires-2
text_in-requires-2 c = (standing_stood c.args.m.now (bytes "PID") 1 c.occurrence-patient.result c.occurrence-patient.ensures, omega arith)

pub text_in-requires-3 : goal.text_in-requires-3
text_in-requires-3 c = (standing-inside c.args.m.now (bytes "OBR") c.requires.of_group.0 _ c.requires.of_group.1.1, omega arith)

pub text_in-requires-4 : goal.text_in-requires-4
text_in-requires-4 c = (standing-inside c.args.m.now (bytes "OBR") c.requires.of_group.0 _ c.requires.of_group.1.1, omega arith)

pub text_in-requires-5 : goal.text_in-requires-5
text_in-requires-5 c = (standing-inside c.args.m.now (bytes "OBR") c.requires.of_group.0 _ c.requires.of_group.1.1, omega arith)

pub overflow_add-order : goal.overflow_add-order
overflow_add-order c = let n = (group_count c.args.m.now c.requires.of_group.0 _ c.requires.of_group.1.0 c.requires.of_group.1.1).0 in
    search rules

pub observations-requires : goal.observations-requires
observations-requires c = omega (arith, (group_count c.args.m.now c.requires.of_group.0 _ c.requires.of_group.1.0 c.requires.of_group.1.1).0)

pub fill-requires : goal.fill-requires
fill-requires c =
    let there = read (goal.at.fill-requires c).After-observations c.marks_of.result c.marks_of.ensures in
    group_fits there c.requires.of_group.0 c.requires.of_group.1 c.requires.is_accepted.0 c.requires.is_accepted.1 _ c.requires.zeros

pub returns : goal.returns
returns c g o =
    let there = read (goal.at.returns c).After-observations c.marks_of.result c.marks_of.ensures in
    group_slip there g o _ c.fill.ensures
