-- `is_decimals`: after the point the digits decide.
use Rattle.types.proofs.TypeLaws.{digits-some, digits-all}
use Rattle.types.proofs.is_decimals.Goals as goal

pub returns : goal.returns
returns c = rw (c.digits_len-n.ensures.0, digits-some, digits-all, c.behind_point-after.ensures)
