-- `judge_field`: too many repetitions, missing, or the first broken check of a filled one.
use Rattle.std.proofs.Common.{Ok, Err, inl, inr, sym, rules}
use borrow.Author.Tests.{not-false}
use Rattle.codes.proofs.OneField.{field-most}
use Rattle.located.specs.Listed.{leaves_of_field}
use Rattle.located.proofs.FieldLeaves.{lists_itself}
use Rattle.segments.proofs.FieldChecks.{judged-surplus, judged-missing, judged-found}
use Rattle.segments.proofs.judge_field.Goals as goal
use Rattle.segments.proofs.judge_field.Goals.{else-not-r-via-then-not-r+else-is_required, else-not-r-via-else-not-r}

pub read_field-r-requires : goal.read_field-r-requires
read_field-r-requires c = (
  rw c.from-most.ensures (field-most c.args.table.now c.args.k c.args.at c.args.end c.requires.field.0),
  lists_itself c.args.table.now c.leaf_rows.result (leaves_of_field c.args.q c.args.table.now c.args.s.now c.args.at c.args.end) c.leaf_rows.ensures,
)

pub returns-then-r : goal.returns-then-r
returns-then-r c = rw (c.at_repetition.ensures, c.from-number.ensures, c.from-most.ensures)
    (judged-surplus (record { numbered = c.requires.sound.1; rows = c.requires.field.0; text = c.requires.field.1 }) c.leaf_rows.ensures
    (rw c.from-most.ensures at c.read_field-r.ensures) c.if-r.true)

pub returns-then-is_required : goal.returns-then-is_required
returns-then-is_required c = rw (c.at_repetition-then-is_required.ensures, c.from-number.ensures)
    (judged-missing (record { numbered = c.requires.sound.1; rows = c.requires.field.0; text = c.requires.field.1 }) c.leaf_rows.ensures
    (rw c.from-most.ensures at c.read_field-r.ensures) c.if-r.false (rw c.if-is_required.true at (sym c.is_required.ensures)) (search rules))

pub returns-in-None : goal.returns-in-None
returns-in-None c =
    judged-found (record { numbered = c.requires.sound.1; rows = c.requires.field.0; text = c.requires.field.1 }) c.leaf_rows.ensures
    (rw c.from-most.ensures at c.read_field-r.ensures) (Ok tt) (λ n o. rw c.in-None.is) c.if-r.false
    (elim c.else-not-r.branch [
      | else-not-r-via-then-not-r+else-is_required w ↦ inl (rw w.if-is_required.false at (sym w.is_required.ensures))
      | else-not-r-via-else-not-r w ↦ inr (not-false _ w.if-not-r.false)
    ])

pub returns-in-Some : goal.returns-in-Some
returns-in-Some c =
    judged-found (record { numbered = c.requires.sound.1; rows = c.requires.field.0; text = c.requires.field.1 }) c.leaf_rows.ensures
    (rw c.from-most.ensures at c.read_field-r.ensures) (Err _) (λ n o. rw (c.in-Some.is, c.from-number.ensures)) c.if-r.false
    (elim c.else-not-r.branch [
      | else-not-r-via-then-not-r+else-is_required w ↦ inl (rw w.if-is_required.false at (sym w.is_required.ensures))
      | else-not-r-via-else-not-r w ↦ inr (not-false _ w.if-not-r.false)
    ])
