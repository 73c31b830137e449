-- The two columns that spare work: where the next field's rows begin, and which texts are sure to pass.
use mathlib.Core.Path.{◌≡◌, refl, sym, ap, subst, ◌∙◌}
use Prim.Native.Nat.{ℕ, suc, ◌+◌, ◌*◌, ◌≤◌}
use native.Mathlib.Omega.{arith}
use mathlib.Core.Bool.{Bool, true, ◌&&◌}
use mathlib.Core.List.{List, [], ◌∷◌, ◌++◌, map}
use lib.ListN.{length, get_or, take}
use lib.Seq.{take_at}
use lib.Dec.{eqb}
use borrow.Author.Tests.{eqb-true}
use Rattle.text.specs.Bytes.{every}
use Rattle.text.proofs.Tests.{both}
use Rattle.text.proofs.Lists.{or_either}
use Rattle.profile.specs.Numbers.{row_size, field_column, component_column, next_column, sure_column, leaf_of}
use Rattle.profile.specs.Order.{of_field, leads, takes_up_to, is_sure, guides}
use Rattle.codes.specs.Inner.{SureUpTo, sure}

-- of the first row, and of the rows after some
pub guides-first : (at : ℕ) (r : List ℕ) (rs : List (List ℕ)) → guides at (r ∷ rs) ≡ true
    → (get_or r next_column 0 ≡ at + of_field (get_or r field_column 0) (r ∷ rs) * row_size) × (is_sure r rs ≡ true)
unfolding guides
guides-first at r rs e =
    let h = both (leads at r rs) (is_sure r rs) (both (leads at r rs && is_sure r rs) (guides (at + row_size) rs) e).0 in
    (eqb-true (get_or r next_column 0) (at + of_field (get_or r field_column 0) (r ∷ rs) * row_size) h.0, h.1)

pub guides-behind : (at : ℕ) (l r : List (List ℕ)) → guides at (l ++ r) ≡ true → guides (at + length l * row_size) r ≡ true
unfolding guides
guides-behind at [] r e =
    let z : at + 0 * row_size ≡ at = omega arith in
    rw z e
guides-behind at (x ∷ l) r e =
    let z : at + suc (length l) * row_size ≡ at + row_size + length l * row_size = omega arith in
    rw z (guides-behind (at + row_size) l r (both (leads at x (l ++ r) && is_sure x (l ++ r)) (guides (at + row_size) (l ++ r)) e).1)

-- what a row that says a length says of the rows of its field
pub record SureRows (r : List ℕ) (rs : List (List ℕ)) : Type 0 where
  pub first : get_or r component_column 0 ≡ 1
  pub each : every (λ (x : List ℕ). takes_up_to (get_or r sure_column 0) (leaf_of x)) rs ≡ true

pub sure-rows : (r : List ℕ) (rs front rest : List (List ℕ)) → is_sure r rs ≡ true → r ∷ rs ≡ front ++ rest → of_field (get_or r field_column 0) (r ∷ rs) ≡ length front
    → 1 ≤ get_or r sure_column 0 → SureRows r front
sure-rows r rs front rest e cut count some =
    let n = of_field (get_or r field_column 0) (r ∷ rs) in
    let takes : List ℕ → Bool = λ x. takes_up_to (get_or r sure_column 0) (leaf_of x) in
    let all = every takes (take n (r ∷ rs)) in
    let is : take n (r ∷ rs) ≡ front = ap (take n) cut ∙ take_at front rest n (sym count) in
    or_either (eqb (get_or r sure_column 0) 0) (eqb (get_or r component_column 0) 1 && all) (λ h. absurd (omega (arith, eqb-true (get_or r sure_column 0) 0 h)))
    (λ h.
    let b = both (eqb (get_or r component_column 0) 1) all h in
    record {
      first = eqb-true (get_or r component_column 0) 1 b.0;
      each = subst (λ (l : List (List ℕ)). every takes l ≡ true) is b.1;
    })
    e

-- the same of their leaves
every_map : {A B : Type 0} (p : B → Bool) (f : A → B) (l : List A) → every (λ x. p (f x)) l ≡ every p (map f l)
unfolding every
every_map p f [] = refl
every_map p f (x ∷ l) = ap (λ (b : Bool). p (f x) && b) (every_map p f l)

pub sure-leaves : (r : List ℕ) (rs : List (List ℕ)) → SureRows r (r ∷ rs) → SureUpTo (get_or r sure_column 0) (map leaf_of (r ∷ rs))
sure-leaves r rs w =
    sure w.first (sym (every_map (takes_up_to (get_or r sure_column 0)) leaf_of (r ∷ rs)) ∙ w.each)
