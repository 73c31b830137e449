-- `is_namesake`: the segment begins with the three bytes.
use Rattle.listing.proofs.Counted.{is_namesake}
use Rattle.listing.proofs.is_namesake.Goals as goal

pub returns : goal.returns
returns c = is_namesake c.args.m.now c.args.start c.args.at c.args.end c.requires.0 c.starts_with.result c.starts_with.ensures.value
