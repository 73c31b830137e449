-- `header`: a PID comes next.
use Rattle.std.proofs.Common.{rules, ne_eqb}
use Rattle.walk.specs.Named.{PID}
use Rattle.walk.proofs.Walking.{goes_on, goes_out}
use Rattle.walk.proofs.header.Goals as goal

pub returns-in_default : goal.returns-in_default
returns-in_default c = rw c.in_default.is at c.in_ok-next.ensures

pub returns-in-2 : goal.returns-in-2
returns-in-2 c =
    goes_on c.args.table.now c.requires.1.0 (rw c.in-Some.is at c.in_ok-next.ensures) (rw (c.requires.1.1, c.in-2.is)) c.patient.ensures

pub returns-in_default-number : goal.returns-in_default-number
returns-in_default-number c =
    rw c.at.ensures
    (goes_out c.args.table.now c.requires.1.0 (rw c.in-Some.is at c.in_ok-next.ensures) (rw c.requires.1.1 (ne_eqb c.in-Some.next.number PID (search rules))))
