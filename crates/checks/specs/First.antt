-- A demand is said with this.
-- The first broken check, said as such.
use Rattle.std.specs.Prelude.{ℕ, ◌≡◌, Bool, List}
use Rattle.text.specs.First.{none, First}
use Rattle.checks.specs.Place.{Place}
use Rattle.checks.specs.Fault.{Check}

-- none of them is broken; the first broken one has that place and reason
abbrev pub is_broken : Check → Bool
is_broken c = c.broken

abbrev pub none_broken : List Check → Bool
none_broken cs = none is_broken cs

pub record FirstBroken (cs : List Check) (p : Place) (n : ℕ) : Type 0 where
  pub found : Check
  pub first : First is_broken cs found
  pub place : found.place ≡ p
  pub reason : found.reason ≡ n
