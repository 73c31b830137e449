-- `is_tm`: the twos, and what follows them.
use mathlib.Core.Path.{sym, ◌∙◌}
use borrow.Author.Tests.{le-leb, lt-leb}
use Rattle.text.proofs.Lists.{part-rest}
use Rattle.types.specs.Inner.{ranges_of}
use Rattle.types.proofs.TwosLaws.{time_read}
use Rattle.types.proofs.is_tm.Goals as goal

pub returns-then-n-lt2 : goal.returns-then-n-lt2
unfolding ranges_of
returns-then-n-lt2 c = sym (time_read c.args.t.now c.twos_len-n.result c.twos_len-n.ensures.0 ∙ rw (lt-leb 2 c.twos_len-n.result c.if-n-lt2.true))

pub returns : goal.returns
unfolding ranges_of
returns c = c.is_ending.ensures ∙ rw (part-rest c.twos_len-n.result c.args.t.now) (sym (time_read c.args.t.now c.twos_len-n.result c.twos_len-n.ensures.0 ∙ rw (le-leb 2 c.twos_len-n.result c.if-n-lt2.false)))
