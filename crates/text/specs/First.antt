-- A demand is said with this.
-- The first of a list that a test holds of, said as such.
use Rattle.std.specs.Prelude.{◌≡◌, Bool, true, not, List, ◌∷◌, ◌++◌}
use Rattle.text.specs.Bytes.{every}
use Rattle.text.specs.Answer.{Test}
use Rattle.text.specs.declared.refusal.Refusal.{Refusal}

-- the test holds of none of them
abbrev pub none : {A : Type 0} → (A → Bool) → List A → Bool
none p l = every (λ a. not (p a)) l

-- a STANDS IN THE LIST, the test HOLDS of it, and of NONE BEFORE it
pub record First {A : Type 0} (p : A → Bool) (l : List A) (a : A) : Type 0 where
  pub before : List A
  pub after : List A
  pub stands : l ≡ before ++ a ∷ after
  pub holds : p a ≡ true
  pub none_before : none p before ≡ true

abbrev pub applies : Test → Bool
applies t = t.applies

-- r is the first of these refusals that applies
pub record FirstRefusal (ts : List Test) (r : Refusal) : Type 0 where
  pub test : Test
  pub first : First applies ts test
  pub refusal : test.refusal ≡ r
