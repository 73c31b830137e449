-- `ithwyral_file`: what is told is the definition's refusal, or that the slip stands in its slot.
use Rattle.std.proofs.Common.{ap, ◌∙◌}
use Rattle.profile.specs.Profile.{profile01}
use Rattle.slip.specs.Book.{file}
use Rattle.numbers.specs.Told.{status}
use Rattle.cabi.proofs.Done.{status-done}
use Rattle.cabi.proofs.ithwyral_file.Goals as goal

pub returns : goal.returns
returns c =
    record {
      returned = c.tell.ensures.returned ∙ ap status c.file.ensures.answer ∙ status-done (file profile01 c.args.m.now c.args.group c.args.slot c.args.book.now);
      book = c.file.ensures.book;
    }
