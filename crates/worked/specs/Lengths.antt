-- No entry's promise is made of this: it tries the definitions.
-- A length is that of the text that a person reads: cases with escapes, and a reply of 3,074 bytes.
use Rattle.std.specs.Prelude.{ℕ, List, [], ◌∷◌, ◌++◌, length, replicate}
use Prim.Native.String as string
use Rattle.text.specs.Bytes.{Text, bytes, byte, cr}
use Rattle.text.specs.Decimal.{decimal}
use Rattle.parts.specs.Split.{closed}
use Rattle.profile.specs.Profile.{profile01}
use Rattle.reply.specs.Reply.{reply}
use Rattle.worked.specs.Messages.{message, msh, pid, obr, obx, with_pid, with_obx, desk, outcome, reply_to}
use Rattle.worked.specs.Worked.{Example, ◌says◌}
use Rattle.worked.specs.Hard.{letters, ampersands, valued}

-- M from a practice
abbrev from : string.String → string.String → Text
from practice control =
    bytes "MSH|^~\\&||" ++ bytes practice ++ bytes "|||2024||ORU^R01|" ++ bytes control ++ bytes "|P|2.5.1" ++ (cr ∷ []) ++ message (pid ∷ obr ∷ obx ∷ [])

-- the desk's line for an observation of a type and a value
abbrev observed : string.String → Text → Text
observed type value = desk (valued (bytes type) value)

-- the desk's line for M with an OBX that has so many ampersands in a field
abbrev in_field : string.String → ℕ → string.String → Text
in_field before n after = desk (message (msh ∷ pid ∷ obr ∷ []) ++ bytes before ++ ampersands n ++ bytes after ++ (cr ∷ []))

unfoldable pub judged : List Example
judged =
    -- R & D & K Care, West: 20 bytes, which its leaf just takes; with one byte more; with a bad escape, which is told first
    (desk (from "R \\T\\ D \\T\\ K Care, West" "C7") says bytes "accepted")
    ∷ (desk (from "R \\T\\ D \\T\\ K Care, North" "C7") says bytes "fault MSH 1 4 1 1 1 102 5")
    ∷ (desk (from "R \\T\\ D \\T\\ K Care, North\\" "C7") says bytes "fault MSH 1 4 1 1 1 102 6")
    ∷ (desk (from "R \\X\\ D \\T\\ K Care, North" "C7") says bytes "fault MSH 1 4 1 1 1 102 6")
    -- all five escapes count one
    ∷ (desk (with_obx "OBX|1||T|\\F\\\\S\\\\T\\\\R\\\\E\\\\F\\\\S\\\\T\\\\R\\\\E\\ABCDEFGHIJ|||||||F") says bytes "accepted")
    ∷ (desk (with_obx "OBX|1||T|\\F\\\\S\\\\T\\\\R\\\\E\\\\F\\\\S\\\\T\\\\R\\\\E\\ABCDEFGHIJK|||||||F") says bytes "fault OBX 1 4 1 1 1 102 5")
    -- each kind of limit, just met and with one byte more, but 4,096: the stored calls try that. An ampersand is no digit, and in no list
    ∷ (in_field "OBX|" 4 "||T||||||||F" says bytes "fault OBX 1 1 1 1 1 102 7")
    ∷ (in_field "OBX|" 5 "||T||||||||F" says bytes "fault OBX 1 1 1 1 1 102 5")
    ∷ (in_field "OBX|1|" 3 "|T||x||||||F" says bytes "fault OBX 1 2 1 1 1 103 8")
    ∷ (in_field "OBX|1|" 4 "|T||x||||||F" says bytes "fault OBX 1 2 1 1 1 102 5")
    ∷ (in_field "OBX|1||T||||" 60 "||||F" says bytes "accepted")
    ∷ (in_field "OBX|1||T||||" 61 "||||F" says bytes "fault OBX 1 7 1 1 1 102 5")
    ∷ (in_field "OBX|1||T||||||||" 20 "" says bytes "fault OBX 1 11 1 1 1 103 8")
    ∷ (in_field "OBX|1||T||||||||" 21 "" says bytes "fault OBX 1 11 1 1 1 102 5")
    ∷ (observed "NM" (ampersands 16) says bytes "fault OBX 1 5 1 1 1 102 7")
    ∷ (observed "NM" (ampersands 17) says bytes "fault OBX 1 5 1 1 1 102 5")
    ∷ (observed "TM" (ampersands 16) says bytes "fault OBX 1 5 1 1 1 102 7")
    ∷ (observed "TM" (ampersands 17) says bytes "fault OBX 1 5 1 1 1 102 5")
    ∷ (observed "DTM" (ampersands 24) says bytes "fault OBX 1 5 1 1 1 102 7")
    ∷ (observed "DTM" (ampersands 25) says bytes "fault OBX 1 5 1 1 1 102 5")
    ∷ (observed "ST" (ampersands 199) says bytes "accepted")
    ∷ (observed "ST" (ampersands 200) says bytes "fault OBX 1 5 1 1 1 102 5")
    ∷ (observed "ST" (ampersands 200 ++ bytes "\\T") says bytes "fault OBX 1 5 1 1 1 102 6")
    -- a list is for what is written
    ∷ (desk (with_pid "PID|1||A55||LANE||20240301|\\T\\") says bytes "fault PID 1 8 1 1 1 103 8")
    ∷ []

abbrev four_times : Text → Text
four_times party = closed (byte "|") (replicate 4 party)

-- M with one party in four fields, the control number and the processing id as told
abbrev headed : Text → Text → string.String → Text
headed party control processing =
    bytes "MSH|^~\\&|" ++ four_times party ++ bytes "2024||ORU^R01|" ++ control
    ++ bytes "|" ++ bytes processing ++ bytes "|2.5.1" ++ (cr ∷ []) ++ message (pid ∷ obr ∷ obx ∷ [])

-- a party with the longest leaves
abbrev party : Text
party = ampersands 20 ++ bytes "^" ++ ampersands 199 ++ bytes "^" ++ ampersands 20

-- A REPLY OF 3,074 BYTES: four such parties, the longest control and reply numbers, and the fault that takes the most bytes to tell
abbrev longest_asked : Text
longest_asked = headed party (ampersands 20) "Q"

abbrev longest_replied : Text
longest_replied =
    bytes "MSH|^~\\&|" ++ four_times party ++ bytes "20240305101501||ACK^R01^ACK|"
    ++ letters 20 ++ bytes "|P|2.5.1" ++ (cr ∷ []) ++ bytes "MSA|AR|" ++ ampersands 20 ++ (cr ∷ [])
    ++ message ("ERR||MSH^1^11^1^1^1|202^Unsupported processing id^HL70357|E" ∷ [])

unfoldable pub copied : List Example
copied =
    -- what is copied is copied as it is written
    (reply_to (from "R \\T\\ D \\T\\ K Care, West" "\\E\\7")
    says message ("MSH|^~\\&||||R \\T\\ D \\T\\ K Care, West|20240305101501||ACK^R01^ACK|K1|P|2.5.1" ∷ "MSA|AA|\\E\\7" ∷ []))
    -- and left empty where it is too long when it is read
    ∷ (reply_to (from "R \\T\\ D \\T\\ K Care, North^1" "\\E\\7")
    says message
    ("MSH|^~\\&||||^1|20240305101501||ACK^R01^ACK|K1|P|2.5.1"
    ∷ "MSA|AE|\\E\\7"
    ∷ "ERR||MSH^1^4^1^1^1|102^Data type error^HL70357|E"
    ∷ []))
    -- a control number of 20 escapes, and of 21
    ∷ (desk (headed (bytes "L") (ampersands 20) "P") says bytes "accepted")
    ∷ (desk (headed (bytes "L") (ampersands 21) "P") says bytes "fault MSH 1 10 1 1 1 102 5")
    ∷ (reply_to (headed (bytes "L") (ampersands 21) "P") says bytes "refused 13")
    ∷ (outcome (reply profile01 longest_asked (bytes "20240305101501") (letters 20) 3074) says longest_replied)
    ∷ (decimal (length longest_replied) says bytes "3074")
    ∷ (outcome (reply profile01 longest_asked (bytes "20240305101501") (letters 20) 3073) says bytes "refused 14")
    ∷ []
