-- `fill`: text by text, then the count, each after the one before.
use Rattle.std.proofs.Common.{rules}
use Rattle.slot.proofs.FillSlip.{slip-filled}
use Rattle.slot.proofs.fill.Goals as goal

pub returns : goal.returns
returns c =
    let h =
    slip-filled _ c.args.v c.requires.zeros c.put_text.ensures.puts c.put_text-2.ensures.puts c.put_text-3.ensures.puts c.put_text-4.ensures.puts
    c.put_text-5.ensures.puts c.put_count.ensures.puts in
    search (rules, h)
