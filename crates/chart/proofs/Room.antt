-- Room for texts that are put one after another.
use Prim.Native.Nat.{ℕ, ◌+◌, ◌≤◌}
use mathlib.Core.List.{◌++◌}
use native.Mathlib.Omega.{arith}
use lib.ListN.{length, length-append}
use Rattle.text.specs.Bytes.{Text}
use Rattle.text.specs.declared.writer.Writer.{Writer}
use Rattle.text.specs.Writes.{Writes}
use Rattle.text.proofs.Writes.{writes-length}

-- room for two is room for the first; when that is put, it is room for the second
pub room-first : (a b : Text) (at n : ℕ) → at + length (a ++ b) ≤ n → at + length a ≤ n
room-first a b at n h = omega (arith, h, length-append a b)

pub room-rest : (b : Text) {before mid : Writer} {a : Text}
    → Writes before a mid → before.at + length (a ++ b) ≤ length before.out.now → mid.at + length b ≤ length mid.out.now
room-rest b {a = a} p h = omega (arith, h, length-append a b, p.puts.ends, writes-length p)
