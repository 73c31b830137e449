-- An entry's promise is made of this.
-- The segments of a message, their names and their fields.
use Rattle.std.specs.Prelude.{ℕ, zero, suc, ◌+◌, Bool, false, ◌&&◌, List, [], ◌∷◌, map, length, get_or, take, drop, leb, ltb}
use Rattle.text.specs.Bytes.{Text, pick, bytes, cr, capital, capital_or_digit, keep, same}
use Rattle.text.specs.declared.marks.Marks.{Marks}
use Rattle.parts.specs.Split.{piece, ended, Located, whole, nothing, inside}

-- THE SEGMENTS: what each CR ends
abbrev pub segments : Text → List Text
segments m = ended cr m

abbrev pub name : Text → Text
name s = take 3 s

-- a name: a capital, then two capitals or digits
abbrev pub is_name : Text → Bool
is_name [] = false
is_name (a ∷ []) = false
is_name (a ∷ b ∷ []) = false
is_name (a ∷ b ∷ c ∷ []) = capital a && capital_or_digit b && capital_or_digit c
is_name (a ∷ b ∷ c ∷ d ∷ t) = false

abbrev pub named : Text → Text → Bool
named n s = same (name s) n

-- the segments of a name, in order
abbrev pub of_name : Text → List Text → List Text
of_name n ss = keep (named n) ss

-- occurrence o of a name, from 1: no bytes where there is none
abbrev pub occurrence : Text → Text → ℕ → Text
occurrence m n o = piece o (of_name n (segments m))

-- fewer segments of that name
abbrev pub fewer : Text → Text → ℕ → Bool
fewer m n o = ltb (length (of_name n (segments m))) o

-- the numbers from k on, so many of them
unfoldable pub count_from : ℕ → ℕ → List ℕ
count_from k zero = []
count_from k (suc n) = k ∷ count_from (suc k) n

-- THE SAME SEGMENTS, each with its start
unfoldable pub located_segments : Text → List Located
located_segments m = map (λ i. inside cr i (whole m)) (count_from 1 (length (segments m)))

-- the one of that number, from 1: nothing where there is none
abbrev pub nth : ℕ → List Located → Located
nth zero ss = nothing
nth (suc i) ss = get_or ss i nothing

-- occurrence o of a name, with its start. Its bytes are those of `occurrence` (`occurrence-text`, proofs/Occurrences.antt)
unfoldable pub occurrence_of : Text → Text → ℕ → Located
occurrence_of m n o = nth o (keep (λ (s : Located). named n s.text) (located_segments m))

abbrev pub is_header : Text → Bool
is_header s = named (bytes "MSH") s

-- the header's name and separators are nine bytes; any other segment's name and separator four
abbrev pub header_size : ℕ
header_size = 9

abbrev pub opening_size : ℕ
opening_size = 4

-- what stands of a segment from byte j up to byte k, and after its first k bytes
abbrev pub between : ℕ → ℕ → Located → Located
between j k s = record { start = s.start + j; text = drop j (take k s.text) }

abbrev pub after : ℕ → Located → Located
after k s = record { start = s.start + k; text = drop k s.text }

-- the header's fields: MSH-1 and MSH-2 are its separators, and the field after the ninth byte is MSH-3
abbrev pub header_field_of : Marks → Located → ℕ → Located
header_field_of q s zero = nothing
header_field_of q s (suc zero) = between 3 4 s
header_field_of q s (suc (suc zero)) = between 4 8 s
header_field_of q s (suc (suc (suc i))) = inside q.field (suc i) (after header_size s)

-- FIELD f of a segment, with its start: any other segment's fields stand after its name and one separator
unfoldable pub field_of : Marks → Located → ℕ → Located
field_of q s f = pick (is_header s.text) (header_field_of q s f) (inside q.field f (after opening_size s))

-- its bytes
abbrev pub field : Marks → Text → ℕ → Text
field q s f = (field_of q (whole s) f).text

-- MSH-1 and MSH-2 are unsplit
abbrev pub unsplit : Text → ℕ → Bool
unsplit s f = is_header s && leb f 2
