use borrow.Author.Rules.{rules}
use Rattle.text.specs.Marks.{marks_of}
use Rattle.text.proofs.marks.marks_of.Goals as goal

pub returns : goal.returns
unfolding marks_of
returns c = search rules
