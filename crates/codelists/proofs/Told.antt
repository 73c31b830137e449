-- What is printed is the page: the lines, or the one that says that there is none.
use mathlib.Core.Path.{◌≡◌, refl, subst}
use Prim.Native.Nat.{ℕ}
use native.Mathlib.Omega.{arith}
use mathlib.Core.List.{[], ◌∷◌, ◌++◌}
use lib.ListN.{length}
use Rattle.text.specs.Bytes.{Text, bytes}
use Rattle.text.specs.Puts.{Puts}
use Rattle.text.proofs.Puts.{puts-both}
use Rattle.profile.specs.Profile.{profile01}
use Rattle.line.specs.Line.{as_line}
use Rattle.chart.specs.Chart.{charted, or_none, page}
use Rattle.chart.specs.Inner.{asked_lines}

or-none : (t : Text) → length t ≡ 0 → t ++ as_line (bytes "no list") ≡ or_none t
or-none [] e = refl
or-none (b ∷ t) e = absurd (omega arith)

or_some : (t : Text) → (length t ≡ 0 → ⊥) → t ≡ or_none t
or_some [] n = absurd (n refl)
or_some (b ∷ t) n = refl

module _ (name : Text) (f k : ℕ) {before mid : Text} {n : ℕ} (p : Puts before 0 (asked_lines name f k (charted profile01)) mid n) where
  pub puts-none-listed : {after : Text} {r : ℕ} → n ≡ 0 → Puts mid 0 (as_line (bytes "no list")) after r → Puts before 0 (page profile01 name f k) after r
  unfolding page
  puts-none-listed e q =
      rw (or-none (asked_lines name f k (charted profile01)) (omega (arith, p.ends))) at
      (puts-both (subst (λ (i : ℕ). Puts before 0 (asked_lines name f k (charted profile01)) mid i) e p) q)

  pub puts-some-listed : (n ≡ 0 → ⊥) → Puts before 0 (page profile01 name f k) mid n
  unfolding page
  puts-some-listed h = rw (or_some (asked_lines name f k (charted profile01)) (λ e. h (omega (arith, p.ends)))) at p
