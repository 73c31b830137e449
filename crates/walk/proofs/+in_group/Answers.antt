-- The cycle of the readers from an ORC or an OBR on: each reads its segment and hands on to whoever reads the next.
use Rattle.std.proofs.Common.{rules, ne_eqb, arith, refl}
use Rattle.walk.specs.Named.{ORC, OBR, OBX, NTE}
use Rattle.walk.proofs.Walking.{out, falls, goes_on, goes_out}
use Rattle.walk.proofs.+in_group.Goals as goal

pub behind_group-order-requires : goal.behind_group-order-requires
behind_group-order-requires t c = (omega (arith, falls c.requires.1, c.decreases), (c.requires.0, rw c.in-4.is at c.requires.1))

pub behind_group-group-requires : goal.behind_group-group-requires
behind_group-group-requires t c = (omega (arith, falls c.requires.1, c.decreases), (c.requires.0, rw c.in-5.is at c.requires.1))

pub behind_group-observation-requires : goal.behind_group-observation-requires
behind_group-observation-requires t c = (omega (arith, falls c.requires.1, c.decreases), (c.requires.0, rw c.in-6.is at c.requires.1))

pub behind_group-note-requires : goal.behind_group-note-requires
behind_group-note-requires t c = (omega (arith, falls c.requires.1, c.decreases), (c.requires.0, rw c.in-7.is at c.requires.1))

pub behind_group-returns-in_default : goal.behind_group-returns-in_default
behind_group-returns-in_default t c =
    let k = c.args.number in
    rw (c.at.ensures, ne_eqb k ORC (search rules), ne_eqb k OBR (search rules), ne_eqb k OBX (search rules), ne_eqb k NTE (search rules))
    (out c.requires.1)

pub group-returns : goal.group-returns
group-returns t c = goes_on c.args.table.now c.requires.1 (rw c.in-Some.is at c.in_ok-next.ensures) refl c.behind_group.ensures

pub note-returns : goal.note-returns
note-returns t c = goes_on c.args.table.now c.requires.1 (rw c.in-Some.is at c.in_ok-next.ensures) refl c.behind_group.ensures

pub observation-returns : goal.observation-returns
observation-returns t c = goes_on c.args.table.now c.requires.1 (rw c.in-Some.is at c.in_ok-next.ensures) refl c.behind_group.ensures

pub order-returns-in-5 : goal.order-returns-in-5
order-returns-in-5 t c =
    goes_on c.args.table.now c.requires.1 (rw c.in-Some.is at c.in_ok-next.ensures) (rw c.in-5.is) c.group.ensures

pub order-returns-in_default-number : goal.order-returns-in_default-number
order-returns-in_default-number t c =
    rw c.at.ensures
    (goes_out c.args.table.now c.requires.1 (rw c.in-Some.is at c.in_ok-next.ensures) (ne_eqb c.in-Some.next.number OBR (search rules)))
