-- An entry's promise is made of this.
-- 01's profile field by field, as 01 lists it, and its rows, leaf by leaf.
use Rattle.std.specs.Prelude.{ℕ}
use Prim.Native.String as string
use mathlib.Core.List.{List, [], ◌∷◌, map, flat_map}
use Rattle.text.specs.Bytes.{Text, bytes}
use Rattle.profile.specs.Table.{SI, NM, ST, FT, ID, IS, Leaf, leaf, named_by_field, Usage, O, R, C, Row}
use Rattle.profile.specs.Noted.{noted}
use Rattle.profile.specs.Limits.{own_limits}
use Rattle.profile.specs.Lists.{lists}
use Rattle.profile.specs.Leaves.{simple, HD, TS, MSG, PT, VID, CX, XPN, EI, CE}

-- a type's leaf in a field: its limit and its list are those of its place, where it has some there
abbrev pub as_noted : Text → ℕ → Leaf → Leaf
as_noted n f l =
    record {
      component = l.component;
      subcomponent = l.subcomponent;
      type = l.type;
      star = l.star;
      limit = noted own_limits n f l.component l.subcomponent l.limit;
      list = noted lists n f l.component l.subcomponent l.list;
    }

-- a field: a row for each of its leaves; a field whose type another field names
abbrev pub field : string.String → ℕ → List Leaf → Usage → ℕ → List Row
field s f ls u n =
    map (λ (l : Leaf). record { segment = bytes s; field = f; usage = u; repetitions = n; lists = leaf (as_noted (bytes s) f l) }) ls

abbrev pub field_as : string.String → ℕ → ℕ → Usage → ℕ → List Row
field_as s f g u n = record { segment = bytes s; field = f; usage = u; repetitions = n; lists = named_by_field g } ∷ []

-- THE FIELDS: segment, field, type, usage, repetitions. OBX-2 is required where OBX-5 is filled; OBX-5 is of the type that OBX-2 names
abbrev pub fields : List (List Row)
fields =
    field "MSH" 3 HD O 1
    ∷ field "MSH" 4 HD R 1
    ∷ field "MSH" 5 HD O 1
    ∷ field "MSH" 6 HD O 1
    ∷ field "MSH" 7 TS R 1
    ∷ field "MSH" 9 MSG R 1
    ∷ field "MSH" 10 (simple ST) R 1
    ∷ field "MSH" 11 PT R 1
    ∷ field "MSH" 12 VID R 1
    ∷ field "PID" 1 (simple SI) O 1
    ∷ field "PID" 3 CX R 5
    ∷ field "PID" 5 XPN R 2
    ∷ field "PID" 7 TS R 1
    ∷ field "PID" 8 (simple IS) O 1
    ∷ field "PID" 24 (simple ID) O 1
    ∷ field "PID" 25 (simple NM) O 1
    ∷ field "NK1" 1 (simple SI) R 1
    ∷ field "NK1" 2 XPN O 2
    ∷ field "NK1" 3 CE R 1
    ∷ field "ORC" 1 (simple ID) R 1
    ∷ field "ORC" 2 EI O 1
    ∷ field "ORC" 3 EI O 1
    ∷ field "OBR" 1 (simple SI) R 1
    ∷ field "OBR" 2 EI O 1
    ∷ field "OBR" 3 EI R 1
    ∷ field "OBR" 4 CE R 1
    ∷ field "OBR" 7 TS R 1
    ∷ field "OBR" 25 (simple ID) O 1
    ∷ field "OBX" 1 (simple SI) R 1
    ∷ field "OBX" 2 (simple ID) (C 5) 1
    ∷ field "OBX" 3 CE R 1
    ∷ field "OBX" 4 (simple ST) O 1
    ∷ field_as "OBX" 5 2 O 1
    ∷ field "OBX" 6 CE O 1
    ∷ field "OBX" 7 (simple ST) O 1
    ∷ field "OBX" 8 (simple IS) O 5
    ∷ field "OBX" 11 (simple ID) R 1
    ∷ field "OBX" 14 TS O 1
    ∷ field "NTE" 1 (simple SI) O 1
    ∷ field "NTE" 2 (simple ID) O 1
    ∷ field "NTE" 3 (simple FT) O 8
    ∷ []

-- THE ROWS: those of one field after another
unfoldable pub rows : List Row
rows = flat_map (λ (rs : List Row). rs) fields
