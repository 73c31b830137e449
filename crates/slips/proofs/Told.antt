-- What is printed is the slip, or the line of its refusal.
use mathlib.Core.Path.{◌≡◌, sym, ap, ◌∙◌}
use Prim.Native.Nat.{ℕ}
use native.Mathlib.Omega.{arith}
use mathlib.Core.List.{append-nil}
use lib.ListN.{replicate}
use Rattle.text.specs.Bytes.{Text}
use Rattle.text.specs.Answer.{Answer, refused, given}
use Rattle.text.specs.declared.refusal.Refusal.{Refusal}
use Rattle.text.proofs.Answer.{told-refused}
use Rattle.line.specs.Line.{as_line, refused_line}
use Rattle.hexes.specs.Hex.{hex_lines, slip_lines}
use Rattle.slip.specs.Slot.{slot_size}
use Rattle.slip.specs.Book.{book_after}
use Rattle.slip.specs.Told.{done}

pub lines-refused : (a : Answer Text) (r : Refusal) → refused r ≡ done a → as_line (refused_line r) ≡ slip_lines a
lines-refused a r e = ap slip_lines (sym (told-refused (λ (t : Text). tt {0}) a r e))

-- the one slot of the book is the slip
pub lines-given : (a : Answer Text) (book : Text) → given tt ≡ done a → book ≡ book_after a 0 (replicate slot_size 0) → hex_lines book ≡ slip_lines a
lines-given (refused s) book e b = absurd (let z : ◌≡◌ {A = ℕ} 0 1 = cc in omega arith)
lines-given (given slip) book e b = ap hex_lines (b ∙ append-nil slip)
