-- Inner: no entry's promise is made of this.
-- The three sorts of what may stand at a leaf: Empty, Null or Text.
use Rattle.std.specs.Prelude.{Bool, not, ◌||◌}
use Rattle.text.specs.Bytes.{Text, bytes, empty, same}

-- NULL: exactly two quotation marks, by which HL7 means "delete what you hold"
abbrev pub is_null : Text → Bool
is_null t = same t (bytes "\"\"")

-- TEXT: neither Empty nor Null
abbrev pub is_text : Text → Bool
is_text t = not (is_null t || empty t)
