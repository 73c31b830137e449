-- The cycle of the readers of the PID and its NK1 segments.
use Rattle.std.proofs.Common.{◌≡◌, ◌⊎◌, ℕ, inl, inr, rules, ne_eqb, arith}
use Rattle.walk.specs.Named.{PID, NK1, ORC, OBR}
use Rattle.walk.proofs.Walking.{follows, out, falls, goes_on}
use Rattle.walk.specs.Named.{behind_patient}
use Rattle.walk.proofs.+before_group.Goals as goal

pub behind_patient-patient-requires : goal.behind_patient-patient-requires
behind_patient-patient-requires t c = (omega (arith, falls c.requires.1, c.decreases), (c.requires.0, (c.requires.1, inr c.in-3.is)))

pub behind_patient-returns-in_default : goal.behind_patient-returns-in_default
behind_patient-returns-in_default t c =
    rw (c.at.ensures, ne_eqb c.args.number NK1 (search rules), ne_eqb c.args.number ORC (search rules), ne_eqb c.args.number OBR (search rules))
    (out c.requires.1)

-- after either
follows_patient : (k j : ℕ) → (k ≡ PID) ⊎ (k ≡ NK1) → follows k j ≡ behind_patient j
follows_patient k j (inl e) = rw e
follows_patient k j (inr e) = rw e

pub patient-returns : goal.patient-returns
patient-returns t c =
    goes_on c.args.table.now c.requires.1.0 (rw c.in-Some.is at c.in_ok-next.ensures) (follows_patient _ _ c.requires.1.1) c.behind_patient.ensures
