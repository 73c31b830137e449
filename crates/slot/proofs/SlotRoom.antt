-- A slot that the book has lies within it.
use mathlib.Core.Path.{◌≡◌}
use Prim.Native.Nat.{ℕ, ◌+◌, ◌/◌, ◌≤◌}
use native.Mathlib.Omega.{arith}
use mathlib.Core.Bool.{false}
use lib.ListN.{length}
use borrow.Author.Tests.{leb-false}
use Rattle.text.specs.Bytes.{Text}
use Rattle.slot.specs.Slot.{slot_size, slot_start, no_slot}

pub slot-room : (book : Text) (k : ℕ) → no_slot book k ≡ false → slot_start k + slot_size ≤ length book
slot-room book k e = omega (arith, leb-false (length book / slot_size) k e)
