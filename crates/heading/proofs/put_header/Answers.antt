-- `put_header`: its texts, one after another.
use mathlib.Core.Path.{◌≡◌, ap, ◌∙◌}
use native.Mathlib.Omega.{arith}
use lib.ListN.{length}
use Rattle.text.proofs.Writes.{writes-both, writes-length}
use Rattle.heading.specs.Header.{header_leaf, processing}
use Rattle.heading.proofs.Heading.{processing-copied, header-written, sizes}
use Rattle.heading.proofs.put_header.Goals as goal
use Rattle.heading.proofs.put_header.Goals.{After-processing-id}

-- the processing id as it is copied
processed : (c : After-processing-id) → c.processing-id.result.now ≡ processing (header_leaf c.args.h.message.now 11 1)
processed c =
    c.processing-id.ensures
    ∙ processing-copied c.args.h.message.now c.marks_of-q.ensures c.args.h.tenth.now _ _ c.requires.opened.control c.behind.ensures c.field_leaf.ensures

pub put_parties-requires-clause-room : goal.put_parties-requires-clause-room
put_parties-requires-clause-room c =
    omega (arith, sizes c.args.h.message.now c.args.stamp.now c.args.number.now, c.requires.room, writes-length c.put.ensures)

pub put-requires-2 : goal.put-requires-2
put-requires-2 c =
    omega (arith, sizes c.args.h.message.now c.args.stamp.now c.args.number.now, c.requires.room, writes-length c.put.ensures, writes-length c.put_parties.ensures)

pub put-requires-3 : goal.put-requires-3
put-requires-3 c =
    omega (arith, sizes c.args.h.message.now c.args.stamp.now c.args.number.now, c.requires.room, writes-length c.put.ensures, writes-length c.put_parties.ensures, writes-length c.put-2.ensures)

pub put-requires-4 : goal.put-requires-4
put-requires-4 c =
    omega (arith, sizes c.args.h.message.now c.args.stamp.now c.args.number.now, c.requires.room, writes-length c.put.ensures, writes-length c.put_parties.ensures, writes-length c.put-2.ensures, writes-length c.put-3.ensures)

pub put-requires-5 : goal.put-requires-5
put-requires-5 c =
    omega (arith, sizes c.args.h.message.now c.args.stamp.now c.args.number.now, c.requires.room, writes-length c.put.ensures, writes-length c.put_parties.ensures, writes-length c.put-2.ensures, writes-length c.put-3.ensures, writes-length c.put-4.ensures)

pub put-requires-6 : goal.put-requires-6
put-requires-6 c =
    omega (arith, sizes c.args.h.message.now c.args.stamp.now c.args.number.now, c.requires.room, writes-length c.put.ensures, writes-length c.put_parties.ensures, writes-length c.put-2.ensures, writes-length c.put-3.ensures, writes-length c.put-4.ensures, writes-length c.put-5.ensures, ap length (processed (goal.at.put-requires-6 c).After-processing-id))

pub put-requires-7 : goal.put-requires-7
put-requires-7 c =
    omega (arith, sizes c.args.h.message.now c.args.stamp.now c.args.number.now, c.requires.room, writes-length c.put.ensures, writes-length c.put_parties.ensures, writes-length c.put-2.ensures, writes-length c.put-3.ensures, writes-length c.put-4.ensures, writes-length c.put-5.ensures, writes-length c.put-6.ensures, ap length (processed (goal.at.put-requires-7 c).After-processing-id))

pub returns : goal.returns
returns c =
    rw (processed (goal.at.returns c).After-processing-id, header-written c.args.h.message.now c.args.stamp.now c.args.number.now) at
    (writes-both (writes-both (writes-both (writes-both (writes-both (writes-both (writes-both c.put.ensures c.put_parties.ensures) c.put-2.ensures) c.put-3.ensures)
    c.put-4.ensures) c.put-5.ensures) c.put-6.ensures) c.put-7.ensures)
