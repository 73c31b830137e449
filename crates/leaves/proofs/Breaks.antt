-- The first broken check: laws for a reader that goes from check to check.
use mathlib.Core.Path.{◌≡◌, refl, sym, ap, ◌∙◌}
use Prim.Native.Nat.{ℕ}
use mathlib.Core.Bool.{Bool, true, false}
use mathlib.Core.List.{List, [], ◌∷◌, ◌++◌, flat_map}
use Rattle.std.specs.Option.{is_some, MatchOption, IsSomeAnd}
use Rattle.std.specs.Result.{result_err}
use Rattle.std.specs.Prelude.{not, Option, None, Some, Result, Ok, Err}
use Rattle.text.specs.Bytes.{pick}
use Rattle.checks.specs.Place.{Place}
use Rattle.checks.specs.Fault.{Check, Verdict, accepted, fault, first_broken}
use Rattle.checks.specs.declared.reasons.Reason.{Reason}
use Rattle.leaves.specs.declared.repetition.BrokenLeaf.{BrokenLeaf}
use Rattle.leaves.specs.Judged.{told, told_in}

-- a fault stays; where there is none, what is found further on
abbrev pub or_else : Verdict → Verdict → Verdict
or_else accepted v = v
or_else (fault p n) v = fault p n

pub or_else_none : (v : Verdict) → or_else v accepted ≡ v
or_else_none accepted = refl
or_else_none (fault p n) = refl

pick_else : (b : Bool) (p : Place) (n : ℕ) (v w : Verdict) → or_else (pick b (fault p n) v) w ≡ pick b (fault p n) (or_else v w)
pick_else true p n v w = refl
pick_else false p n v w = refl

-- those of one list, or else those of the other
pub broken-append : (cs ds : List Check) → first_broken (cs ++ ds) ≡ or_else (first_broken cs) (first_broken ds)
unfolding first_broken
broken-append [] ds = refl
broken-append (c ∷ cs) ds =
    ap (pick c.broken (fault c.place c.reason)) (broken-append cs ds)
    ∙ sym (pick_else c.broken c.place c.reason (first_broken cs) (first_broken ds))

pub broken-flat : {A : Type 0} (f : A → List Check) (x : A) (xs : List A) → first_broken (flat_map f (x ∷ xs)) ≡ or_else (first_broken (f x)) (first_broken (flat_map f xs))
unfolding flat_map
broken-flat f x xs = broken-append (f x) (flat_map f xs)

-- the leaf that a check's answer tells of
abbrev pub broken_at : Result Unit Reason → ℕ → ℕ → Option BrokenLeaf
broken_at (Ok _) c b = None
broken_at (Err r) c b = Some (record { reason = r; component = c; subcomponent = b })

pub told_at : (at : ℕ → ℕ → Place) (r : Result Unit Reason) (c b : ℕ) → told_in at (broken_at r c b) ≡ told (at c b) r
told_at at (Ok _) c b = refl
told_at at (Err r) c b = refl

-- no broken leaf tells of no fault, any other one of a fault
pub told_none : (at : ℕ → ℕ → Place) (b : Option BrokenLeaf) → b ≡ None → told_in at b ≡ accepted
told_none at b e = rw e

pub told_kept : (at : ℕ → ℕ → Place) (b : Option BrokenLeaf) → (b ≡ None → ⊥) → (v : Verdict) → or_else (told_in at b) v ≡ told_in at b
told_kept at None n v = absurd (n refl)
told_kept at (Some leaf) n v = refl

-- what the test for one says
module _ (b : Option BrokenLeaf) (r : Bool) (said : is_some b ≡ not r) where
  pub none_yet : r ≡ true → b ≡ None
  none_yet e = elim b as (λ o. is_some o ≡ not r → o ≡ None) [ None ↦ (λ h. refl) | Some leaf ↦ (λ h. cc (h, e)) ] said

  pub one_before : r ≡ false → b ≡ None → ⊥
  one_before e z = cc (said, e, z)

-- what is made of a check's answer: a closure gives the leaf of a reason
pub leaf_made : (r : Result Unit Reason) (o : Option Reason) (m : Option BrokenLeaf) (c b : ℕ) (Gives : Reason → BrokenLeaf → Type 0) → o ≡ result_err r
    → ((x : Reason) (y : BrokenLeaf) → Gives x y → y ≡ record { reason = x; component = c; subcomponent = b })
    → MatchOption o (m ≡ None) (λ x. IsSomeAnd m (Gives x)) → m ≡ broken_at r c b
leaf_made (Ok _) None m c b Gives e f h = h
leaf_made (Ok _) (Some x) m c b Gives e f h = cc e
leaf_made (Err y) None m c b Gives e f h = cc e
leaf_made (Err y) (Some x) None c b Gives e f h = absurd h
leaf_made (Err y) (Some x) (Some z) c b Gives e f h = let g = f x z h in let i : x ≡ y = cc e in rw (g, i)
