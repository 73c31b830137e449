-- `tell`: the slip's lines, or the line of its refusal.
use Rattle.std.specs.Prelude.{replicate}
use Rattle.profile.specs.Profile.{profile01}
use Rattle.slip.specs.Slot.{slot_size}
use Rattle.slip.specs.Book.{file}
use Rattle.slips.proofs.Told.{lines-refused, lines-given}
use Rattle.slips.proofs.tell.Goals as goal

pub returns-in-Err : goal.returns-in-Err
returns-in-Err c =
    rw (lines-refused (file profile01 c.args.m.now c.args.group 0 (replicate slot_size 0)) c.in-Err.r c.in-Err.ensures.answer) at
    c.refused_line.ensures

pub returns-in-Ok : goal.returns-in-Ok
returns-in-Ok c =
    rw (lines-given (file profile01 c.args.m.now c.args.group 0 (replicate slot_size 0)) _ c.in-Ok.ensures.answer c.in-Ok.ensures.book) at
    c.hex_lines.ensures
