-- An entry's promise is made of this.
-- 01's limits, in bytes of the text that a person reads.
use Rattle.std.specs.Prelude.{ℕ, List, [], ◌∷◌}
use Rattle.profile.specs.Table.{Simple, SI, NM, DTM, TM, ST, TX, FT, ID, IS}
use Rattle.profile.specs.Noted.{Noted, at}

-- one that is asked for elsewhere too: of MSH-10, by a reply
abbrev pub control_limit : ℕ
control_limit = 20

-- LIMITS BY TYPE
abbrev pub limit_of : Simple → ℕ
limit_of SI = 4
limit_of ID = 20
limit_of IS = 20
limit_of NM = 16
limit_of TM = 16
limit_of DTM = 24
limit_of ST = 199
limit_of TX = 4096
limit_of FT = 4096

-- LIMITS OF THEIR OWN: segment, field, component; limit
abbrev pub own_limits : List (Noted ℕ)
own_limits = at "MSH" 10 1 control_limit ∷ at "OBX" 2 1 3 ∷ at "OBX" 4 1 20 ∷ at "OBX" 7 1 60 ∷ []
