-- `is_in_list`: the codes of the list with that number decide.
use mathlib.Core.Path.{◌∙◌}
use Rattle.codes.proofs.ListNumbers.{in_list}
use Rattle.codes.proofs.lists.is_in_list.Goals as goal

pub returns : goal.returns
returns c = c.is_one_of.ensures ∙ in_list c.args.lists.now c.args.n _ c.args.s.now c.list_codes-list.ensures c.if-n-eq-ANY.false
