-- `twos_len`: the twos passed and those to come are the twos.
use Rattle.std.proofs.Common.{◌≡◌, ◌+◌, ◌-◌, ◌≤◌, length, drop}
use Rattle.types.specs.Inner.{ranges_of, twos_length}
use Rattle.types.proofs.twos_len.Given as goal

abbrev pub invariant-loop-range : goal.invariant-loop-range
invariant-loop-range l =
    (length l.rest ≤ length l.t)
    × (length l.t - length l.rest + twos_length (ranges_of (drop l.range-index l.ranges)) l.rest ≡ twos_length (ranges_of l.ranges) l.t)
