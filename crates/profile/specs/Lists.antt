-- An entry's promise is made of this.
-- 01's lists, compared as written.
use Prim.Native.String as string
use Rattle.std.specs.Prelude.{List, [], ◌∷◌}
use Rattle.text.specs.Bytes.{Text, bytes}
use Rattle.profile.specs.Table.{Codes, only}
use Rattle.profile.specs.Noted.{Noted, at}

-- one code; codes of one letter each
abbrev pub code : string.String → List Text
code s = bytes s ∷ []

abbrev pub one_each : Text → List Text
one_each [] = []
one_each (b ∷ t) = (b ∷ []) ∷ one_each t

abbrev pub letters : string.String → List Text
letters s = one_each (bytes s)

-- two that are asked for elsewhere too: of MSH-11.1 by a reply; of OBX-2 for the types that it may name
abbrev pub processing_ids : List Text
processing_ids = letters "DPT"

abbrev pub value-types : List Text
value-types =
    bytes "CE" ∷ bytes "DTM" ∷ bytes "FT" ∷ bytes "NM" ∷ bytes "SN" ∷ bytes "ST" ∷ bytes "TM" ∷ bytes "TX" ∷ []

-- THE LISTS: segment, field, component; the codes; the reason where a text is none of them
abbrev pub lists : List (Noted Codes)
lists =
    at "MSH" 9 1 (only (code "ORU") 9)
    ∷ at "MSH" 9 2 (only (code "R01") 10)
    ∷ at "MSH" 11 1 (only processing_ids 11)
    ∷ at "MSH" 12 1 (only (code "2.5.1") 12)
    ∷ at "PID" 8 1 (only (letters "AFMNOU") 8)
    ∷ at "PID" 24 1 (only (letters "YN") 8)
    ∷ at "ORC" 1 1 (only (code "RE") 8)
    ∷ at "OBR" 25 1 (only (letters "ACFIOPRSXYZ") 8)
    ∷ at "OBX" 2 1 (only value-types 8)
    ∷ at "OBX" 11 1 (only (letters "CDFINOPRSUWX") 8)
    ∷ []
