-- `no_slot`: the very test of the definition.
use mathlib.Core.Path.{◌≡◌, refl}
use Prim.Native.Nat.{ℕ, ◌+◌, ◌/◌}
use native.Mathlib.Omega.{arith}
use mathlib.Core.Bool.{Bool, true, false}
use lib.Dec.{leb, ltb}
use borrow.Author.Tests.{leb-true, leb-false, lt-ltb, le-ltb}
use Rattle.slot.specs.Slot.{slot_size, slot_start}
use Rattle.slot.proofs.no_slot.Goals as goal

-- Why the length is divided: multiplied, the test would say the same of numbers without end, and a product may not fit in 64 bits.
multiplied-step : (n k : ℕ) (b : Bool) → leb (n / slot_size) k ≡ b → ltb n (slot_start k + slot_size) ≡ b
multiplied-step n k true e = lt-ltb n (slot_start k + slot_size) (omega (arith, leb-true (n / slot_size) k e))
multiplied-step n k false e = le-ltb n (slot_start k + slot_size) (omega (arith, leb-false (n / slot_size) k e))

multiplied : (n k : ℕ) → ltb n (slot_start k + slot_size) ≡ leb (n / slot_size) k
multiplied n k = multiplied-step n k (leb (n / slot_size) k) refl

pub returns : goal.returns
returns c = refl
