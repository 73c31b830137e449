-- An entry's promise is made of this.
-- Bytes and texts, and the tests on them that every other definition is made of.
use Rattle.std.specs.Prelude.{ℕ, ◌-◌, Bool, true, false, ◌&&◌, ◌||◌, List, [], ◌∷◌, get_or, take, drop, eqb, leb}
use Prim.Native.Char.{code}
use Prim.Native.String as string

-- a message, a part of one, a buffer and a book are each a list of bytes
abbrev pub Text : Type 0
Text = List ℕ

-- the first where the test holds, the second where not
abbrev pub pick : {A : Type 0} → Bool → A → A → A
pick true a b = a
pick false a b = b

-- the bytes of a quoted text; the one byte of a quoted character
abbrev pub bytes : string.String → Text
bytes string.[] = []
bytes (string.◌∷◌ c s) = code c ∷ bytes s

abbrev pub byte : string.String → ℕ
byte s = get_or (bytes s) 0 0

abbrev pub cr : ℕ
cr = 0x0D

abbrev pub capital : ℕ → Bool
capital b = leb (byte "A") b && leb b (byte "Z")

abbrev pub digit : ℕ → Bool
digit b = leb (byte "0") b && leb b (byte "9")

abbrev pub capital_or_digit : ℕ → Bool
capital_or_digit b = capital b || digit b

abbrev pub printable : ℕ → Bool
printable b = leb 0x20 b && leb b 0x7E

abbrev pub empty : {A : Type 0} → List A → Bool
empty [] = true
empty (x ∷ xs) = false

-- the bytes from one place of a text up to another
abbrev pub within : ℕ → ℕ → Text → Text
within from to t = take (to - from) (drop from t)

-- the test holds of each member; of some member
unfoldable pub every : {A : Type 0} → (A → Bool) → List A → Bool
every p [] = true
every p (x ∷ xs) = p x && every p xs

unfoldable pub some : {A : Type 0} → (A → Bool) → List A → Bool
some p [] = false
some p (x ∷ xs) = p x || some p xs

-- the members of which the test holds, in order
unfoldable pub keep : {A : Type 0} → (A → Bool) → List A → List A
keep p [] = []
keep p (x ∷ xs) = pick (p x) (x ∷ keep p xs) (keep p xs)

-- the two texts are equal
unfoldable pub same : Text → Text → Bool
same [] [] = true
same [] (y ∷ ys) = false
same (x ∷ xs) [] = false
same (x ∷ xs) (y ∷ ys) = eqb x y && same xs ys

-- the text is one of those
abbrev pub is_one : Text → List Text → Bool
is_one t ts = some (same t) ts
