-- Inner: no entry's promise is made of this.
-- Where segments and fields start, as the code counts it: also where there is none.
use Rattle.std.specs.Prelude.{ℕ, zero, suc, ◌+◌, List, [], ◌∷◌, drop}
use Rattle.text.specs.Bytes.{Text, pick, cr}
use Rattle.text.specs.declared.marks.Marks.{Marks}
use Rattle.parts.specs.Split.{whole}
use Rattle.parts.specs.Start.{before, start}
use Rattle.frame.specs.Segments.{segments, named, is_header, header_size, opening_size, header_field_of}

-- how many segments stand before the one that has i of its name before it
unfoldable pub ahead : Text → List Text → ℕ → ℕ
ahead n [] i = 0
ahead n (s ∷ ss) zero = pick (named n s) 0 (suc (ahead n ss zero))
ahead n (s ∷ ss) (suc i) = suc (ahead n ss (pick (named n s) i (suc i)))

-- where occurrence o of a name starts in the message
abbrev pub occurrence_start : Text → Text → ℕ → ℕ
occurrence_start m n zero = 0
occurrence_start m n (suc i) = before cr m (ahead n (segments m) i)

-- the header's fields by their bytes, and where a field starts in its segment
abbrev pub header_field : Marks → Text → ℕ → Text
header_field q s f = (header_field_of q (whole s) f).text

abbrev pub header_field_start : Marks → Text → ℕ → ℕ
header_field_start q s zero = 0
header_field_start q s (suc zero) = 3
header_field_start q s (suc (suc zero)) = 4
header_field_start q s (suc (suc (suc i))) = header_size + start q.field (suc i) (drop header_size s)

unfoldable pub field_start : Marks → Text → ℕ → ℕ
field_start q s f = pick (is_header s) (header_field_start q s f) (opening_size + start q.field f (drop opening_size s))
