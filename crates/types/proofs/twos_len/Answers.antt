-- `twos_len`: the twos passed and those to come are the twos.
use Rattle.std.proofs.Common.{arith, suc}
use Rattle.types.specs.Inner.{twos_length}
use Rattle.types.proofs.TwosLaws.{twos_next, twos_end}
use Rattle.types.proofs.twos_len.Goals as goal
use Rattle.types.proofs.twos_len.Goals.{else-loop-range-test, then-loop-range-test+in_default}

pub loop-range-preserved : goal.loop-range-preserved
loop-range-preserved c =
    let e = c.in-Some.ensures in
    omega (arith, e.0, twos_next _ _ _ (λ rs. suc (suc (twos_length rs c.in-Some.after.now))) c.loop-range-test.true e.1)

pub returns : goal.returns
returns c =
    elim c.loop-range-test.branch [
      | else-loop-range-test w ↦ omega (arith, twos_end c.args.ranges.now c.loop-range.range-index c.loop-range.rest.now w.loop-range-test.false)
      | then-loop-range-test+in_default w ↦ omega (arith, twos_next _ _ _ (λ rs. 0) w.loop-range-test.true w.in_default.ensures)
    ]
