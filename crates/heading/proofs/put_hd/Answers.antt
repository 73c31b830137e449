-- `put_hd`: three components, those at the end left off where they are empty, and the separator.
use native.Mathlib.Omega.{arith}
use Rattle.text.proofs.Writes.{writes-both, writes-length}
use Rattle.heading.specs.Inner.{hd_there}
use Rattle.heading.proofs.Heading.{Copies, hd_copied}
use Rattle.heading.proofs.put_hd.Goals as goal
use Rattle.heading.proofs.put_hd.Goals.{After-or_empty-third}

told : (c : After-or_empty-third)
    → Copies (hd_there c.args.q c.args.fields.now) c.or_empty-first.result.now c.or_empty-second.result.now c.or_empty-third.result.now
told c =
    hd_copied c.args.q c.first_repetition-components.result.now c.behind-later.result.now c.behind-last.result.now c.behind-later.ensures c.behind-last.ensures
    c.args.fields.now _ _ _ c.first_repetition-components.ensures c.or_empty-first.ensures c.or_empty-second.ensures c.or_empty-third.ensures

pub put-requires : goal.put-requires
put-requires c = omega (arith, (told (goal.at.put-requires c).After-or_empty-third).size)

pub put_component-requires : goal.put_component-requires
put_component-requires c = omega (arith, (told (goal.at.put_component-requires c).After-or_empty-third).size, writes-length c.put.ensures)

pub put_component-requires-2 : goal.put_component-requires-2
put_component-requires-2 c = omega (arith, (told (goal.at.put_component-requires-2 c).After-or_empty-third).size, writes-length c.put.ensures, writes-length c.put_component.ensures)

pub put-requires-2 : goal.put-requires-2
put-requires-2 c = omega (arith, (told (goal.at.put-requires-2 c).After-or_empty-third).size, writes-length c.put.ensures, writes-length c.put_component.ensures, writes-length c.put_component-2.ensures)

pub returns : goal.returns
returns c =
    rw (told (goal.at.returns c).After-or_empty-third).written at
    (writes-both (writes-both (writes-both c.put.ensures c.put_component.ensures) c.put_component-2.ensures) c.put-2.ensures)
