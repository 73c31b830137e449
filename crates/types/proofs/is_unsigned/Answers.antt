-- `is_unsigned`: digits, and what follows them.
use mathlib.Core.Path.{sym, ◌∙◌}
use borrow.Author.Tests.{lt-ltb, le-ltb}
use borrow.Author.Rules.{rules}
use lib.ListN.{length}
use Rattle.types.specs.Types.{digits}
use Rattle.types.proofs.TypeLaws.{digits-some, digits-rest, part-after-digits}
use Rattle.types.proofs.is_unsigned.Goals as goal

pub returns-then-n-eq0 : goal.returns-then-n-eq0
returns-then-n-eq0 c = let e = sym (digits-some c.args.t.now) ∙ le-ltb 0 (length (digits c.args.t.now)) (search rules) in rw e

pub returns : goal.returns
returns c = let e = sym (digits-some c.args.t.now) ∙ lt-ltb 0 (length (digits c.args.t.now)) (search rules) in
    rw (e, c.is_decimals.ensures, part-after-digits c.args.t.now c.digits_len-n.result c.digits_len-n.ensures.0, c.digits_len-n.ensures.0, digits-rest)
