-- `put_line`: the place, the reason with its condition, the codes and the line's end.
use mathlib.Core.Path.{◌≡◌, ap}
use Prim.Native.Nat.{ℕ}
use mathlib.Core.List.{List}
use lib.ListN.{length}
use Rattle.chart.proofs.CodeByCode.{codes_led}
use native.Mathlib.Omega.{arith}
use borrow.Author.Rules.{rules}
use Rattle.text.specs.Bytes.{within}
use Rattle.text.proofs.Writes.{writes-length}
use Rattle.profile.specs.Codes.{lists_in}
use Rattle.chart.proofs.Lines.{row_length, row_puts}
use Rattle.chart.proofs.row.put_line.Goals as goal
use Rattle.chart.proofs.row.put_line.Goals.{After-unwrap_or-codes}

-- the codes of the list
listed : (c : After-unwrap_or-codes) → c.unwrap_or-codes.result.now ≡ within c.list_codes-list.result.start c.list_codes-list.result.end (lists_in c.args.r.table.now)
listed c = search rules

pub put_place-requires-clause-room : goal.put_place-requires-clause-room
put_place-requires-clause-room c = (omega (arith, row_length c.args.r.segment.now c.args.r.alone c.args.r.table.now c.args.r.start _ _ c.list_codes-list.ensures))

pub put_reason-requires : goal.put_reason-requires
put_reason-requires c = (omega (arith, row_length c.args.r.segment.now c.args.r.alone c.args.r.table.now c.args.r.start _ _ c.list_codes-list.ensures, writes-length c.put_place.ensures))

pub put_codes-requires-clause-room : goal.put_codes-requires-clause-room
put_codes-requires-clause-room c = rw (listed (goal.at.put_codes-requires-clause-room c).After-unwrap_or-codes) (omega (arith, row_length c.args.r.segment.now c.args.r.alone c.args.r.table.now c.args.r.start _ _ c.list_codes-list.ensures, writes-length c.put_place.ensures, writes-length c.put_reason.ensures))

pub put-requires : goal.put-requires
put-requires c = omega (arith, row_length c.args.r.segment.now c.args.r.alone c.args.r.table.now c.args.r.start _ _ c.list_codes-list.ensures, writes-length c.put_place.ensures, writes-length c.put_reason.ensures, writes-length c.put_codes.ensures, ap (λ (l : List ℕ). length (codes_led l)) (listed (goal.at.put-requires c).After-unwrap_or-codes))

pub returns : goal.returns
returns c = row_puts c.args.r.segment.now c.args.r.alone c.args.r.table.now c.args.r.start _ _ c.list_codes-list.ensures
    c.put_place.ensures c.put_reason.ensures (rw (listed (goal.at.returns c).After-unwrap_or-codes) at c.put_codes.ensures) c.put.ensures
