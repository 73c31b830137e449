-- Laws of bytes in hexadecimal digits.
use mathlib.Core.Path.{◌≡◌, refl, ap, ◌∙◌}
use Prim.Native.Nat.{ℕ, zero, suc, ◌+◌, ◌<◌, ◌≤◌, ◌/◌, ◌%◌}
use native.Mathlib.Numerals.{add-one}
use native.Mathlib.Nat.{add-zero, zero-add}
use native.Mathlib.Omega.{arith}
use mathlib.Core.List.{[], ◌∷◌, ◌++◌}
use lib.ListN.{length, get_or, take}
use Rattle.text.specs.Bytes.{Text}
use Rattle.text.specs.declared.writer.Writer.{Writer}
use Rattle.text.specs.Writes.{Writes}
use Rattle.text.proofs.Puts.{puts_none}
use Rattle.text.proofs.Writes.{writes-both}
use Rattle.hexes.specs.Hex.{hex_digit, behind, hex_byte, hex_from}

-- one byte more
from_more : (k : ℕ) (t : Text) (i : ℕ) → i < length t → hex_from k (take (suc i) t) ≡ hex_from k (take i t) ++ hex_byte (k + i) (get_or t i 0)
unfolding hex_from
from_more k [] i h = absurd (omega arith)
from_more k (b ∷ t) zero h = rw (add-zero k) refl
from_more k (b ∷ t) (suc i) h =
    let e : suc k + i ≡ k + suc i = omega arith in
    ap (λ (u : Text). hex_byte k b ++ u) (from_more (suc k) t i (omega arith) ∙ rw e refl)

hex_more : (t : Text) (i : ℕ) → i < length t → hex_from 0 (take (i + 1) t) ≡ hex_from 0 (take i t) ++ hex_byte i (get_or t i 0)
hex_more t i h = rw (add-one i) (from_more 0 t i h ∙ rw (zero-add i) refl)

-- nothing is passed yet; one byte more is put
pub hex_none : (a : Writer) (t : Text) → a.at ≤ length a.out.now → Writes a (hex_from 0 (take 0 t)) a
unfolding hex_from
hex_none a t h = record { same = refl; puts = puts_none a.out.now a.at h }

pub hex_on : {before : Writer} (t : Text) (i : ℕ) {mid : Writer} {a b g : ℕ} {after : Writer} → i < length t
    → Writes before (hex_from 0 (take i t)) mid → a ≡ hex_digit (get_or t i 0 / 16) → b ≡ hex_digit (get_or t i 0 % 16) → g ≡ behind i
    → Writes mid (a ∷ b ∷ g ∷ []) after → Writes before (hex_from 0 (take (i + 1) t)) after
hex_on t i h p x y z q = rw (hex_more t i h, ← x, ← y, ← z) (writes-both p q)
