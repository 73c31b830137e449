-- `has_name`: the first three bytes are compared.
use mathlib.Core.Path.{sym}
use Rattle.frame.proofs.Names.{named-short, named-bytes}
use Rattle.frame.proofs.segment.has_name.Goals as goal

pub returns-in_default : goal.returns-in_default
returns-in_default c = sym (named-short c.args.a c.args.b c.args.c c.args.s.now c.in_default.len_below)

pub returns-in-len3-up : goal.returns-in-len3-up
returns-in-len3-up c = sym (named-bytes c.args.a c.args.b c.args.c c.args.s.now c.in-len3-up.len_at_least)
