-- An entry's promise is made of this.
-- The depot's own table: the rows, the leaves of the types that OBX-2 may name, the succession and the ends.
use Prim.Native.String as string
use Rattle.std.specs.Prelude.{List, [], ◌∷◌, map}
use Rattle.text.specs.Bytes.{Text, bytes}
use Rattle.profile.specs.Table.{NM, DTM, TM, ST, TX, FT, Leaf, TypeLeaves, Succession, Table}
use Rattle.profile.specs.Leaves.{simple, CE, SN}
use Rattle.profile.specs.Fields.{rows}

abbrev pub typed : string.String → List Leaf → TypeLeaves
typed s ls = record { type = bytes s; leaves = ls }

abbrev pub types : List TypeLeaves
types =
    typed "CE" CE
    ∷ typed "DTM" (simple DTM)
    ∷ typed "FT" (simple FT)
    ∷ typed "NM" (simple NM)
    ∷ typed "SN" SN
    ∷ typed "ST" (simple ST)
    ∷ typed "TM" (simple TM)
    ∷ typed "TX" (simple TX)
    ∷ []

abbrev pub then : string.String → List string.String → Succession
then s ns = record { segment = bytes s; then = map bytes ns }

-- MSH is the first
abbrev pub succession : List Succession
succession =
    then "" ("MSH" ∷ [])
    ∷ then "MSH" ("PID" ∷ [])
    ∷ then "PID" ("NK1" ∷ "ORC" ∷ "OBR" ∷ [])
    ∷ then "NK1" ("NK1" ∷ "ORC" ∷ "OBR" ∷ [])
    ∷ then "ORC" ("OBR" ∷ [])
    ∷ then "OBR" ("NTE" ∷ "OBX" ∷ "ORC" ∷ "OBR" ∷ [])
    ∷ then "OBX" ("NTE" ∷ "OBX" ∷ "ORC" ∷ "OBR" ∷ [])
    ∷ then "NTE" ("NTE" ∷ "OBX" ∷ "ORC" ∷ "OBR" ∷ [])
    ∷ []

abbrev pub ends : List Text
ends = map bytes ("OBR" ∷ "OBX" ∷ "NTE" ∷ [])

-- THE PROFILE
unfoldable pub profile01 : Table
profile01 =
    record {
      rows = rows;
      types = types;
      otherwise = simple ST;
      succession = succession;
      ends = ends;
    }
