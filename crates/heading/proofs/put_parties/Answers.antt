-- `put_parties`: four HD, one after another.
use native.Mathlib.Omega.{arith}
use Rattle.text.proofs.Writes.{writes-both, writes-length}
use Rattle.heading.proofs.Heading.{Parties, parties-copied}
use Rattle.heading.proofs.put_parties.Goals as goal
use Rattle.heading.proofs.put_parties.Goals.{After-behind-sixth}

told : (c : After-behind-sixth)
    → Parties c.marks_of-q.result c.args.h.message.now c.args.h.third.now c.behind-fourth.result.now c.behind-fifth.result.now c.behind-sixth.result.now
told c =
    parties-copied c.args.h.message.now c.marks_of-q.ensures c.args.h.third.now _ _ _ c.requires.header_from c.behind-fourth.ensures c.behind-fifth.ensures c.behind-sixth.ensures

pub put_hd-requires : goal.put_hd-requires
put_hd-requires c = omega (arith, (told (goal.at.put_hd-requires c).After-behind-sixth).size, c.requires.room)

pub put_hd-requires-2 : goal.put_hd-requires-2
put_hd-requires-2 c = omega (arith, (told (goal.at.put_hd-requires-2 c).After-behind-sixth).size, c.requires.room, writes-length c.put_hd.ensures)

pub put_hd-requires-3 : goal.put_hd-requires-3
put_hd-requires-3 c = omega (arith, (told (goal.at.put_hd-requires-3 c).After-behind-sixth).size, c.requires.room, writes-length c.put_hd.ensures, writes-length c.put_hd-2.ensures)

pub put_hd-requires-4 : goal.put_hd-requires-4
put_hd-requires-4 c = omega (arith, (told (goal.at.put_hd-requires-4 c).After-behind-sixth).size, c.requires.room, writes-length c.put_hd.ensures, writes-length c.put_hd-2.ensures, writes-length c.put_hd-3.ensures)

pub returns : goal.returns
returns c =
    rw (told (goal.at.returns c).After-behind-sixth).written at
    (writes-both (writes-both (writes-both c.put_hd.ensures c.put_hd-2.ensures) c.put_hd-3.ensures) c.put_hd-4.ensures)
