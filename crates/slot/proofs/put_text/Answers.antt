-- `put_text`: nothing where the text is Empty, else the text and the three bytes before it.
use Rattle.std.proofs.Common.{rules, refl}
use borrow.Author.Tests.{tests}
use Rattle.slot.proofs.FillSlip.{text-room, puts-empty, puts-text}
use Rattle.slot.proofs.put_text.Goals as goal

pub returns-then-is_empty : goal.returns-then-is_empty
returns-then-is_empty c =
    record { same = refl; puts = puts-empty c.args.q c.args.t.now c.requires.fits c.args.w.now.out.now c.args.w.now.at c.args.tag c.requires.room (search (rules, tests)) }

pub put_resolved-requires : goal.put_resolved-requires
put_resolved-requires c =
    (c.requires.fits.good, text-room c.args.q c.args.t.now c.requires.fits c.args.w.now.out.now c.args.w.now.at c.args.tag c.requires.room (search (rules, tests)))

pub returns : goal.returns
returns c =
    record {
      same = search rules;
      puts =
          puts-text c.args.q c.args.t.now c.requires.fits c.args.w.now.out.now c.args.w.now.at c.args.tag c.requires.room (search (rules, tests))
          c.put_resolved.ensures.puts c.put.ensures;
    }
