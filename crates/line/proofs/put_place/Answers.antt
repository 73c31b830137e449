-- `put_place`: the name, then number by number.
use borrow.Author.Rules.{rules}
use Rattle.text.proofs.Puts.{puts-length}
use Rattle.text.proofs.Writes.{writes-both}
use Rattle.line.proofs.Lines.{place-written}
use Rattle.line.proofs.put_place.Goals as goal

pub returns : goal.returns
returns c =
    let h =
    writes-both (writes-both (writes-both (writes-both (writes-both c.put.ensures c.put_number.ensures.writes) c.put_number-2.ensures.writes)
    c.put_number-3.ensures.writes) c.put_number-4.ensures.writes) c.put_number-5.ensures.writes in
    record { writes = rw (place-written _ _ _ _ _ _) at h; short = search rules; stays = puts-length h.puts }
