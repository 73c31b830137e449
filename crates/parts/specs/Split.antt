-- An entry's promise is made of this.
-- The one splitting rule: a text is cut at each separator into pieces, numbered from 1.
use Rattle.std.specs.Prelude.{ℕ, zero, suc, ◌+◌, ◌-◌, Bool, true, false, ◌&&◌, length, get_or, take, eqb}
use mathlib.Core.List.{List, [], ◌∷◌, ◌++◌, drop_last}
use Rattle.text.specs.Bytes.{Text, pick, empty}

-- a byte in front of the pieces: a separator opens an empty piece, any other byte joins the first piece
abbrev pub front : Bool → ℕ → List Text → List Text
front true b ps = [] ∷ ps
front false b [] = (b ∷ []) ∷ []
front false b (p ∷ ps) = (b ∷ p) ∷ ps

-- THE PIECES of a text, one more than its separators
unfoldable pub split : ℕ → Text → List Text
split sep [] = [] ∷ []
split sep (b ∷ t) = front (eqb b sep) b (split sep t)

-- piece number n: no bytes where there is none
abbrev pub piece : ℕ → List Text → Text
piece zero ps = []
piece (suc i) ps = get_or ps i []

-- the pieces that a separator ends: all but what stands after the last separator
unfoldable pub ended : ℕ → Text → List Text
ended sep t = drop_last (split sep t)

-- a separator before each piece; a separator between the pieces; a separator after each piece
unfoldable pub led : ℕ → List Text → Text
led sep [] = []
led sep (p ∷ ps) = sep ∷ p ++ led sep ps

unfoldable pub join : ℕ → List Text → Text
join sep [] = []
join sep (p ∷ ps) = p ++ led sep ps

unfoldable pub closed : ℕ → List Text → Text
closed sep [] = []
closed sep (p ∷ ps) = p ++ sep ∷ closed sep ps

-- a text, and where it starts in the message
pub record Located : Type 0 where
  pub start : ℕ
  pub text : Text

-- a text that is all there is; nothing
abbrev pub whole : Text → Located
whole t = record { start = 0; text = t }

abbrev pub nothing : Located
nothing = whole []

-- PIECE NUMBER n WITH ITS START: before it stand the pieces before it, each with its separator
abbrev pub inside : ℕ → ℕ → Located → Located
inside sep n t =
    let ps = split sep t.text in
    record { start = t.start + length (closed sep (take (n - 1) ps)); text = piece n ps }

-- empty texts at the end dropped
unfoldable pub trimmed : List Text → List Text
trimmed [] = []
trimmed (p ∷ ps) = let r = trimmed ps in pick (empty p && empty r) [] (p ∷ r)
