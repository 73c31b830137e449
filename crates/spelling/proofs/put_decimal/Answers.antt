-- `put_decimal`: no number has more than 20 digits.
use native.Mathlib.Omega.{arith}
use Rattle.text.proofs.Digits.{decimal-length}
use Rattle.spelling.proofs.put_decimal.Goals as goal

pub put_decimal-k-requires : goal.put_decimal-k-requires
put_decimal-k-requires c = omega (arith, decimal-length c.args.n)
