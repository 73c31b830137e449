-- `is_over`: what is left has a word, be it one of no bytes.
use Rattle.words.proofs.Left.{over}
use Rattle.words.proofs.Words.is_over.Goals as goal

pub returns : goal.returns
returns c = over c.args.self.now.rest c.is_none.result c.is_none.ensures
