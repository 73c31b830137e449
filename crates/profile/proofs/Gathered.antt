-- What holds of each row holds of each rule that is made of rows, and what holds of each rule's lists holds of each row's.
use mathlib.Core.Path.{◌≡◌, refl, sym, subst}
use Prim.Native.Nat.{ℕ}
use mathlib.Core.Bool.{Bool, true, false}
use mathlib.Core.List.{List, [], ◌∷◌}
use lib.Dec.{eqb}
use borrow.Author.Tests.{eqb-true}
use Rattle.text.specs.Bytes.{pick}
use Rattle.text.proofs.Lists.{All}
use Rattle.profile.specs.Table.{Listed, Usage, Row, Rule, rule, gather, gathered}

-- K of a field and what its rows list; H of a field and what its first row says of usage and repetitions
module _ (K : ℕ → Listed → Type 0) (H : ℕ → Usage → ℕ → Type 0) where
  abbrev pub RowOk : Row → Type 0
  RowOk r = K r.field r.lists × H r.field r.usage r.repetitions

  abbrev pub RuleOk : Rule → Type 0
  RuleOk u = All (K u.field) u.lists × H u.field u.usage u.repetitions

  join_step : (r : Row) (u : Rule) (us : List Rule) (b : Bool) → eqb r.field u.field ≡ b → RowOk r → RuleOk u → All RuleOk us
      → All RuleOk (pick b (rule r (r.lists ∷ u.lists) ∷ us) (rule r (r.lists ∷ []) ∷ u ∷ us))
  join_step r u us true e a b c =
      (((a.0, subst (λ (f : ℕ). All (K f) u.lists) (sym (eqb-true r.field u.field e)) b.0), a.1), c)
  join_step r u us false e a b c = (((a.0, tt), a.1), (b, c))

  gather-step : (r : Row) (us : List Rule) → RowOk r → All RuleOk us → All RuleOk (gather r us)
  gather-step r [] a c = (((a.0, tt), a.1), tt)
  gather-step r (u ∷ us) a c = join_step r u us (eqb r.field u.field) refl a c.0 c.1

  pub gathered-all : (rs : List Row) → All RowOk rs → All RuleOk (gathered rs)
  unfolding gathered
  gathered-all [] a = tt
  gathered-all (r ∷ rs) a = gather-step r (gathered rs) a.0 (gathered-all rs a.1)

module _ (K : ℕ → Listed → Type 0) where
  abbrev AllListed : Rule → Type 0
  AllListed u = All (K u.field) u.lists

  part_step : (r : Row) (u : Rule) (us : List Rule) (b : Bool) → eqb r.field u.field ≡ b
      → All AllListed (pick b (rule r (r.lists ∷ u.lists) ∷ us) (rule r (r.lists ∷ []) ∷ u ∷ us))
      → K r.field r.lists × All AllListed (u ∷ us)
  part_step r u us true e a = (
    a.0.0,
    (subst (λ (f : ℕ). All (K f) u.lists) (eqb-true r.field u.field e) a.0.1, a.1),
  )
  part_step r u us false e a = (a.0.0, a.1)

  gather-parts : (r : Row) (us : List Rule) → All AllListed (gather r us) → K r.field r.lists × All AllListed us
  gather-parts r [] a = (a.0.0, tt)
  gather-parts r (u ∷ us) a = part_step r u us (eqb r.field u.field) refl a

  pub all-gathered : (rs : List Row) → All AllListed (gathered rs) → All (λ (r : Row). K r.field r.lists) rs
  unfolding gathered
  all-gathered [] a = tt
  all-gathered (r ∷ rs) a = let h = gather-parts r (gathered rs) a in (h.0, all-gathered rs h.1)
