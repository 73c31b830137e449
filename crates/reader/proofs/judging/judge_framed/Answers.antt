-- `judge_framed`: the first listed segment is the header.
use mathlib.Core.Path.{sym, ◌∙◌}
use Rattle.profile.specs.Numbers.{table_of}
use Rattle.listing.specs.Listing.{Next}
use Rattle.reader.proofs.Headed.{headed-some, headed-number, headed-good, headed-stop}
use Rattle.reader.proofs.judging.judge_framed.Goals as goal

pub returns-in_err-first : goal.returns-in_err-first
returns-in_err-first c =
    absurd (headed-some c.args.table.now c.args.m.now c.requires.0 c.requires.1 (rw c.in_err-first.was at (c.next_listed.ensures c.args.table.now c.requires.0)))

pub header-requires : goal.header-requires
header-requires c =
    let next : Next (table_of c.args.table.now) c.args.m.now 0 c.in_ok-first.first.start c.in_ok-first.first.end c.in_ok-first.first.number =
    rw c.in_ok-first.was at (c.next_listed.ensures c.args.table.now c.requires.0) in
    (c.requires.0, (next.here, headed-number c.args.table.now c.args.m.now c.requires.0 c.requires.1 _ _ _ next))

pub returns-in_err-halt : goal.returns-in_err-halt
returns-in_err-halt c =
    rw c.from_residual-in_err-halt.ensures
    (headed-good c.args.table.now c.args.m.now c.requires.0 c.requires.1 _ _ _ (rw c.in_ok-first.was at (c.next_listed.ensures c.args.table.now c.requires.0))
    c.header.result c.header.ensures (sym c.err.ensures.value ∙ c.in_err-halt.was))

pub fault_at-requires : goal.fault_at-requires
fault_at-requires c = (
  c.requires.0,
  (headed-stop c.args.table.now c.args.m.now c.requires.0 c.requires.1 _ _ _ (rw c.in_ok-first.was at (c.next_listed.ensures c.args.table.now c.requires.0))
      c.header.result _ c.header.ensures (sym c.err.ensures.value ∙ c.in_ok-halt.was)).1,
)

pub returns : goal.returns
returns c =
    c.fault_at.ensures
    ∙ (headed-stop c.args.table.now c.args.m.now c.requires.0 c.requires.1 _ _ _ (rw c.in_ok-first.was at (c.next_listed.ensures c.args.table.now c.requires.0))
    c.header.result _ c.header.ensures (sym c.err.ensures.value ∙ c.in_ok-halt.was)).0
