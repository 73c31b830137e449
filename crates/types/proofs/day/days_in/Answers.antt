-- `days_in`: February by the leap year, the months of 30 days one by one, and the others.
use mathlib.Core.Path.{◌≡◌}
use mathlib.Core.Logic.{inl, inr}
use mathlib.Core.List.{[], ◌∷◌}
use Prim.Native.Nat.{ℕ}
use types.Run.{OneOf}
use borrow.Author.Rules.{rules}
use borrow.Author.Tests.{ne_eqb}
use Rattle.text.specs.Bytes.{some}
use Rattle.types.specs.Types.{days_in}
use Rattle.types.proofs.day.days_in.Goals as goal

thirty : (year month : ℕ) → OneOf (4 ∷ 6 ∷ 9 ∷ 11 ∷ []) month → 30 ≡ days_in year month
unfolding some
thirty year month (inl e) = rw e
thirty year month (inr (inl e)) = rw e
thirty year month (inr (inr (inl e))) = rw e
thirty year month (inr (inr (inr e))) = rw e

thirty-one : (year month : ℕ) → (month ≡ 2 → ⊥) → (OneOf (4 ∷ 6 ∷ 9 ∷ 11 ∷ []) month → ⊥) → 31 ≡ days_in year month
unfolding some
thirty-one year month a b =
    rw (
      ne_eqb month 2 a,
      ne_eqb month 4 (λ e. b (inl e)),
      ne_eqb month 6 (λ e. b (inr (inl e))),
      ne_eqb month 9 (λ e. b (inr (inr (inl e)))),
      ne_eqb month 11 (λ e. b (inr (inr (inr e)))),
    )

pub returns-in-4 : goal.returns-in-4
returns-in-4 c = thirty c.args.year c.args.month c.in-4.is

pub returns-in_default : goal.returns-in_default
returns-in_default c = thirty-one c.args.year c.args.month (search rules) (search rules)
