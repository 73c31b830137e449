-- An entry's promise is made of this.
-- What 01 says of single leaves, beside their places.
use Rattle.std.specs.Prelude.{ℕ, Bool, ◌&&◌, List, [], ◌∷◌, eqb}
use Prim.Native.String as string
use Rattle.text.specs.Bytes.{Text, pick, bytes, same}

-- a place is a segment's field and a component with one subcomponent; 01 writes PID-8 for PID-8.1, since a simple type has component 1
pub record Noted (A : Type 0) : Type 0 where
  pub segment : Text
  pub field : ℕ
  pub component : ℕ
  pub says : A

-- segment, field, component, and what is said of the leaf there
abbrev pub at : {A : Type 0} → string.String → ℕ → ℕ → A → Noted A
at s f c a = record { segment = bytes s; field = f; component = c; says = a }

abbrev pub is_at : {A : Type 0} → Noted A → Text → ℕ → ℕ → ℕ → Bool
is_at x n f c b = same x.segment n && eqb x.field f && eqb x.component c && eqb b 1

-- what is said of the leaf at a segment's field, component and subcomponent; the last where nothing is
unfoldable pub noted : {A : Type 0} → List (Noted A) → Text → ℕ → ℕ → ℕ → A → A
noted [] n f c b otherwise = otherwise
noted (x ∷ xs) n f c b otherwise = pick (is_at x n f c b) x.says (noted xs n f c b otherwise)
