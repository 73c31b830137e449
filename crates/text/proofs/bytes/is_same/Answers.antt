-- `is_same`: `==` compares byte by byte.
use mathlib.Core.Path.{◌∙◌}
use Rattle.text.proofs.Tests.{pointwise-same}
use Rattle.text.proofs.bytes.is_same.Goals as goal

pub returns : goal.returns
returns c = c.eq.ensures ∙ pointwise-same _ _
