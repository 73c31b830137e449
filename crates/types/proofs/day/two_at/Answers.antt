-- `two_at`: both bytes are digits.
use native.Mathlib.Omega.{arith}
use mathlib.Core.Path.{refl}
use Prim.Native.Nat.{◌+◌}
use Rattle.types.proofs.DayLaws.{DigitAt, digit_at}
use Rattle.types.proofs.day.two_at.Goals as goal

pub bounds-t-at : goal.bounds-t-at
bounds-t-at c = let first : DigitAt c.args.t.now c.args.at = digit_at c.args.t.now c.args.at (omega (arith, c.requires)) in
    (first).0

pub overflow_sub-result : goal.overflow_sub-result
overflow_sub-result c = let first : DigitAt c.args.t.now c.args.at = digit_at c.args.t.now c.args.at (omega (arith, c.requires)) in
    (first).1.0

pub overflow_mul-result : goal.overflow_mul-result
overflow_mul-result c = let first : DigitAt c.args.t.now c.args.at = digit_at c.args.t.now c.args.at (omega (arith, c.requires)) in
    omega (arith, (first).1)

pub overflow_add-result : goal.overflow_add-result
overflow_add-result c = let second : DigitAt c.args.t.now (c.args.at + 1) = digit_at c.args.t.now (c.args.at + 1) (omega (arith, c.requires)) in
    omega (arith, (second).0)

pub bounds-t-at-2 : goal.bounds-t-at-2
bounds-t-at-2 c = let second : DigitAt c.args.t.now (c.args.at + 1) = digit_at c.args.t.now (c.args.at + 1) (omega (arith, c.requires)) in
    (second).0

pub overflow_sub-result-2 : goal.overflow_sub-result-2
overflow_sub-result-2 c = let second : DigitAt c.args.t.now (c.args.at + 1) = digit_at c.args.t.now (c.args.at + 1) (omega (arith, c.requires)) in
    (second).1.0

pub overflow_add-result-2 : goal.overflow_add-result-2
overflow_add-result-2 c = let first : DigitAt c.args.t.now c.args.at = digit_at c.args.t.now c.args.at (omega (arith, c.requires)) in
    let second : DigitAt c.args.t.now (c.args.at + 1) = digit_at c.args.t.now (c.args.at + 1) (omega (arith, c.requires)) in
    omega (arith, (first).1, (second).1)

pub returns : goal.returns
returns c = let first : DigitAt c.args.t.now c.args.at = digit_at c.args.t.now c.args.at (omega (arith, c.requires)) in
    let second : DigitAt c.args.t.now (c.args.at + 1) = digit_at c.args.t.now (c.args.at + 1) (omega (arith, c.requires)) in
    (refl, omega (arith, (first).1, (second).1))
