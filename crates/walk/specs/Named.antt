-- Inner: no entry's promise is made of this.
-- 01's segments by the numbers of their names (`segmentNames`, profile/specs/Numbers.antt), and which may come after which.
use Rattle.std.specs.Prelude.{ℕ, Bool, ◌||◌, eqb}

abbrev pub MSH : ℕ
MSH = 1

abbrev pub PID : ℕ
PID = 2

abbrev pub NK1 : ℕ
NK1 = 3

abbrev pub ORC : ℕ
ORC = 4

abbrev pub OBR : ℕ
OBR = 5

abbrev pub OBX : ℕ
OBX = 6

abbrev pub NTE : ℕ
NTE = 7

-- after a PID or an NK1
abbrev pub behind_patient : ℕ → Bool
behind_patient j = eqb j NK1 || eqb j ORC || eqb j OBR

-- after an OBR, an OBX or an NTE
abbrev pub behind_group : ℕ → Bool
behind_group j = eqb j ORC || eqb j OBR || eqb j OBX || eqb j NTE

-- the message may end after it
abbrev pub may_be_last : ℕ → Bool
may_be_last k = eqb k OBR || eqb k OBX || eqb k NTE
