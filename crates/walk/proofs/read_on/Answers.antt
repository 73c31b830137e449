-- `read_on`: reading stops at the segment, or goes on to what is after it.
use Rattle.std.proofs.Common.{sym, inl, inr, arith}
use Rattle.listing.proofs.Counted.{opens-behind}
use Rattle.walk.proofs.Walking.{walks_broken, goes_to, stops_at}
use Rattle.walk.proofs.read_on.Goals as goal
use Rattle.walk.proofs.read_on.Goals.{else-is_none-via-then-is_none+else-not-may_be_last, else-is_none-via-else-is_none}

pub returns-then-is_broken : goal.returns-then-is_broken
returns-then-is_broken c =
    rw c.at.ensures (walks_broken c.args.table.now c.requires.1 (rw (c.marks_of.ensures, c.if-is_broken.true) at c.is_broken.ensures))

pub next_listed-next-requires : goal.next_listed-next-requires
next_listed-next-requires c = (omega (arith, c.requires.1.high), opens-behind c.args.m.now c.args.start c.args.end c.requires.1.ends c.requires.1.high)

pub returns-then-not-may_be_last : goal.returns-then-not-may_be_last
returns-then-not-may_be_last c =
    rw c.at-then-not-may_be_last.ensures
    (stops_at c.args.table.now c.requires.1 (rw (c.marks_of.ensures, c.if-is_broken.false) at c.is_broken.ensures)
    c.next_listed-next.result (c.next_listed-next.ensures c.args.table.now c.requires.0)
    (rw c.if-is_none.true at c.is_none.ensures) (sym c.if-not-may_be_last.ensures))

pub returns : goal.returns
returns c =
    goes_to c.args.table.now c.requires.1 (rw (c.marks_of.ensures, c.if-is_broken.false) at c.is_broken.ensures)
    c.next_listed-next.result (c.next_listed-next.ensures c.args.table.now c.requires.0)
    (elim c.else-is_none.branch [
      | else-is_none-via-then-is_none+else-not-may_be_last w ↦ inr (sym w.if-not-may_be_last.ensures)
      | else-is_none-via-else-is_none w ↦ inl (rw w.if-is_none.false at c.is_none.ensures)
    ])
