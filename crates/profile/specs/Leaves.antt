-- An entry's promise is made of this.
-- The listed leaves of each type.
use Rattle.std.specs.Prelude.{ℕ, true, false, List, [], ◌∷◌}
use Rattle.profile.specs.Table.{Simple, NM, DTM, ST, ID, IS, any, Leaf}
use Rattle.profile.specs.Limits.{limit_of}

-- a subcomponent of a simple type, with that type's limit and no list; the first one of a component; a starred one
abbrev pub subcomponent : ℕ → ℕ → Simple → Leaf
subcomponent c b t =
    record { component = c; subcomponent = b; type = t; star = false; limit = limit_of t; list = any }

abbrev pub component : ℕ → Simple → Leaf
component c t = subcomponent c 1 t

abbrev pub component* : ℕ → Simple → Leaf
component* c t =
    record { component = c; subcomponent = 1; type = t; star = true; limit = limit_of t; list = any }

-- a simple type has component 1
abbrev pub simple : Simple → List Leaf
simple t = component 1 t ∷ []

abbrev pub HD : List Leaf
HD = component 1 IS ∷ component 2 ST ∷ component 3 ID ∷ []

abbrev pub TS : List Leaf
TS = component* 1 DTM ∷ []

abbrev pub MSG : List Leaf
MSG = component* 1 ID ∷ component* 2 ID ∷ component 3 ID ∷ []

abbrev pub PT : List Leaf
PT = component* 1 ID ∷ []

abbrev pub VID : List Leaf
VID = component* 1 ID ∷ []

abbrev pub CX : List Leaf
CX =
    component* 1 ST ∷ subcomponent 4 1 IS ∷ subcomponent 4 2 ST ∷ subcomponent 4 3 ID ∷ component 5 ID ∷ []

abbrev pub XPN : List Leaf
XPN = component 1 ST ∷ component 2 ST ∷ component 3 ST ∷ component 7 ID ∷ []

abbrev pub EI : List Leaf
EI = component* 1 ST ∷ component 2 IS ∷ component 3 ST ∷ component 4 ID ∷ []

abbrev pub CE : List Leaf
CE =
    component* 1 ST ∷ component 2 ST ∷ component 3 ID ∷ component 4 ST ∷ component 5 ST ∷ component 6 ID ∷ []

abbrev pub SN : List Leaf
SN = component 1 ST ∷ component 2 NM ∷ component 3 ST ∷ component 4 NM ∷ []
