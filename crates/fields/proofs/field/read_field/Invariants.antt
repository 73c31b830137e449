-- `read_field`: the answer is told from the repetition where the loop stands.
use Rattle.std.proofs.Common.{◌≤◌, length, drop}
use Rattle.parts.specs.Split.{split}
use Rattle.codes.specs.Inner.{leaves_at}
use Rattle.fields.proofs.Repeats.{Repeats}
use Rattle.fields.proofs.field.read_field.Given as goal

abbrev pub invariant-loop-number : goal.invariant-loop-number
invariant-loop-number l =
    record {
      start : l.start ≤ length l.s;
      repeats : Repeats l.q (leaves_at l.table l.rows) l.s l.number-counter (split l.q.repetition (drop l.start l.s)) l.found;
    }
