-- `list_codes`: the index holds where they begin and end.
use Prim.Native.Nat.{ℕ, ◌≤◌}
use mathlib.Core.Path.{◌≡◌}
use mathlib.Core.Bool.{false, ◌||◌}
use mathlib.Core.Logic.{inl, inr}
use lib.Dec.{eqb, ltb}
use borrow.Author.Tests.{eqb-true, eqb-false, ltb-true, ltb-false}
use Rattle.text.proofs.Lists.{or_either, or-none}
use Rattle.profile.specs.Codes.{list_count}
use Rattle.codes.proofs.Numbered.{not-zero}
use Rattle.codes.proofs.ListNumbers.{codes-listed, no_codes}
use Rattle.codes.proofs.lists.list_codes.Goals as goal

-- a list that there is
there : (n count : ℕ) → eqb n 0 || ltb count n ≡ false → (1 ≤ n) × (n ≤ count)
there n count e =
    let h = or-none (eqb n 0) (ltb count n) e in
    (not-zero n (eqb-false n 0 h.0), ltb-false count n h.1)

pub returns-then-n-lists : goal.returns-then-n-lists
returns-then-n-lists c = no_codes c.args.lists.now c.requires c.args.n (or_either (eqb c.args.n 0) (ltb (list_count c.args.lists.now) c.args.n) (λ h. inl (eqb-true c.args.n 0 h)) (λ h. inr (ltb-true (list_count c.args.lists.now) c.args.n h)) c.if-n-lists.true)

pub returns : goal.returns
returns c = let h = there c.args.n (list_count c.args.lists.now) c.if-n-lists.false in
    codes-listed c.args.lists.now c.requires c.args.n h.0 h.1
