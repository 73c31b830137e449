-- `has_header`: the first nine bytes are compared.
use mathlib.Core.Path.{◌∙◌}
use Rattle.text.specs.Marks.{marks_of}
use Rattle.text.proofs.Tests.{pointwise-same}
use Rattle.frame.proofs.Names.{same_swap}
use Rattle.frame.proofs.checks.has_header.Goals as goal

pub returns : goal.returns
unfolding marks_of
returns c = c.starts_with.ensures.value ∙ pointwise-same _ _ ∙ same_swap _ _
