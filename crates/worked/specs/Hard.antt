-- No entry's promise is made of this: it tries the definitions.
-- Cases that are easy to get wrong: what the definitions give, and what 01 means.
use Rattle.std.specs.Prelude.{ℕ, ◌^◌, Bool, true, false, take, drop, replicate}
use Prim.Native.String as string
use mathlib.Core.List.{List, [], ◌∷◌, ◌++◌, flat_map}
use Rattle.text.specs.Bytes.{Text, bytes, byte, cr}
use Rattle.text.specs.Answer.{given, buffer_after}
use Rattle.text.specs.Decimal.{decimal}
use Rattle.text.specs.Marks.{usual}
use Rattle.escape.specs.Escape.{resolve}
use Rattle.types.specs.Types.{is_si, is_nm, is_dtm, is_tm, is_stamp, is_reply_number}
use Rattle.profile.specs.Profile.{profile01}
use Rattle.reader.specs.Place.{place}
use Rattle.reader.specs.LookUp.{look_up}
use Rattle.reader.specs.Fault.{condition}
use Rattle.line.specs.Line.{look_line}
use Rattle.reply.specs.Error.{place_text}
use Rattle.reply.specs.Reply.{reply}
use Rattle.slip.specs.Book.{file, book_after}
use Rattle.book.specs.Read.{is_slip, read_slip}
use Rattle.worked.specs.Messages.{message, msh, pid, obr, obx, M, with_msh, with_pid, with_obx, two_orders, desk, outcome, reply_to, slip_filed, part_line}
use Rattle.worked.specs.Worked.{Example, ◌says◌, P3}

abbrev yes_no : Bool → Text
yes_no true = bytes "yes"
yes_no false = bytes "no"

abbrev pub letters : ℕ → Text
letters n = replicate n 65

-- so many ampersands, as they are written
abbrev pub ampersands : ℕ → Text
ampersands n = flat_map (λ (k : ℕ). bytes "\\T\\") (replicate n 0)

-- looking up in M
abbrev look : string.String → ℕ → ℕ → ℕ → ℕ → ℕ → Text
look n o f r c b = look_line (look_up M (place (bytes n) o f r c b))

-- an OBX of a type and a value
abbrev pub valued : Text → Text → Text
valued type value =
    message (msh ∷ pid ∷ obr ∷ [])
    ++ bytes "OBX|1|" ++ type ++ bytes "|45222-7^C4-DC^LN||" ++ value ++ bytes "|umol/L|||||F" ++ (cr ∷ [])

abbrev typed : string.String → string.String → Text
typed type value = desk (valued (bytes type) (bytes value))

-- two groups: two observations with a note and an unlisted segment, then one
abbrev two_groups : Text
two_groups =
    message
    (msh
    ∷ pid
    ∷ "ZZ1|x"
    ∷ obr
    ∷ obx
    ∷ "NTE|1||a note"
    ∷ "OBX|2|ST|X^Y^Z||fine||||||F"
    ∷ "ORC|RE"
    ∷ "OBR|2|P\\T\\1|F10|54090-6^Other|||20240304"
    ∷ "ZZ2"
    ∷ "OBX|1|ST|X^Y^Z||bad\\||||||F"
    ∷ [])

unfoldable pub frames : List Example
frames =
    (desk [] says bytes "refused 1")
    ∷ (desk (bytes "MSH") says bytes "refused 4")
    ∷ (desk (message ("MSH|^~\\&" ∷ [])) says bytes "refused 4")
    ∷ (desk (bytes "MSH|^~\\&|") says bytes "refused 5")
    ∷ (desk (message ("MSH|^~\\&|" ∷ [])) says bytes "fault MSH 1 4 1 0 0 101 3")
    ∷ (desk (M ++ (10 ∷ [])) says bytes "refused 3")
    ∷ (desk (M ++ (cr ∷ [])) says bytes "refused 6")
    ∷ (desk (message (msh ∷ "PIDX" ∷ [])) says bytes "refused 6")
    ∷ (desk (message (msh ∷ "1ID" ∷ [])) says bytes "refused 6")
    ∷ (desk (message (msh ∷ "MSH" ∷ [])) says bytes "refused 7")
    ∷ []

unfoldable pub looks : List Example
looks =
    -- MSH-1 and MSH-2, at their first leaf and beyond
    (look "MSH" 1 1 1 1 1 says bytes "text 3 4")
    ∷ (look "MSH" 1 2 1 1 1 says bytes "text 4 8")
    ∷ (look "MSH" 1 1 2 1 1 says bytes "empty")
    ∷ (look "MSH" 1 2 1 2 1 says bytes "empty")
    ∷ (look "MSH" 1 2 1 1 2 says bytes "empty")
    -- MSH-3 after the ninth byte, MSH-9 and not MSH-10, MSH-8 of no bytes
    ∷ (look "MSH" 1 3 1 1 1 says bytes "text 9 15")
    ∷ (look "MSH" 1 9 1 2 1 says bytes "text 50 53")
    ∷ (look "MSH" 1 8 1 1 1 says bytes "empty")
    ∷ (look "PID" 1 5 1 2 1 says bytes "text 90 94")
    ∷ (look "PID" 1 5 1 3 1 says bytes "empty")
    ∷ (look "PID" 1 200 1 1 1 says bytes "empty")
    -- the numbers that may be asked for
    ∷ (look "pid" 1 5 1 2 1 says bytes "refused 9")
    ∷ (look "PID" 0 5 1 2 1 says bytes "refused 9")
    ∷ (look "PID" 513 5 1 2 1 says bytes "refused 9")
    ∷ (look "PID" 1 256 1 2 1 says bytes "refused 9")
    ∷ (look "PID" 1 5 65536 2 1 says bytes "refused 9")
    ∷ (look "PID" 1 5 65535 2 1 says bytes "empty")
    ∷ (look "PID" 1 5 1 0 1 says bytes "refused 9")
    ∷ (look "PID" 2 5 1 2 1 says bytes "refused 10")
    ∷ (look "ZZZ" 1 5 1 2 1 says bytes "refused 10")
    ∷ []

unfoldable pub escapes : List Example
escapes =
    (outcome (resolve usual (bytes "a\\F\\\\S\\\\T\\\\R\\\\E\\b") 7) says bytes "a|^&~\\b")
    ∷ (outcome (resolve usual (bytes "a\\F\\\\S\\\\T\\\\R\\\\E\\b") 6) says bytes "refused 14")
    ∷ (outcome (resolve usual (bytes "ends \\E") 9) says bytes "refused 20")
    ∷ (outcome (resolve usual (bytes "\\X\\") 0) says bytes "refused 20")
    ∷ (outcome (resolve usual (bytes "\\F\\S\\") 9) says bytes "refused 20")
    ∷ (buffer_after (resolve usual (bytes "\\T\\") 3) (bytes "xyz") says bytes "&yz")
    ∷ (buffer_after (resolve usual (bytes "\\T") 3) (bytes "xyz") says bytes "xyz")
    ∷ []

unfoldable pub types : List Example
types =
    (yes_no (is_dtm (bytes "2024")) says bytes "yes")
    ∷ (yes_no (is_dtm (bytes "202")) says bytes "no")
    ∷ (yes_no (is_dtm (bytes "20241")) says bytes "no")
    ∷ (yes_no (is_dtm (bytes "20241301")) says bytes "no")
    ∷ (yes_no (is_dtm (bytes "20240231")) says bytes "yes")
    ∷ (yes_no (is_dtm (bytes "2024-1459")) says bytes "yes")
    ∷ (yes_no (is_dtm (bytes "2024-1500")) says bytes "no")
    ∷ (yes_no (is_dtm (bytes "2024-14")) says bytes "no")
    ∷ (yes_no (is_dtm (bytes "20240301101500.1234+0000")) says bytes "yes")
    ∷ (yes_no (is_dtm (bytes "20240301101500.12345")) says bytes "no")
    ∷ (yes_no (is_dtm (bytes "20240301101500.")) says bytes "no")
    ∷ (yes_no (is_dtm (bytes "202403011015.1")) says bytes "no")
    ∷ (yes_no (is_dtm (bytes "2024030110150099")) says bytes "no")
    ∷ (yes_no (is_tm (bytes "23")) says bytes "yes")
    ∷ (yes_no (is_tm (bytes "24")) says bytes "no")
    ∷ (yes_no (is_tm (bytes "235959.5-0100")) says bytes "yes")
    ∷ (yes_no (is_nm (bytes "-0.5")) says bytes "yes")
    ∷ (yes_no (is_nm (bytes "+")) says bytes "no")
    ∷ (yes_no (is_nm (bytes ".5")) says bytes "no")
    ∷ (yes_no (is_nm (bytes "5.")) says bytes "no")
    ∷ (yes_no (is_nm (bytes "1.2.3")) says bytes "no")
    ∷ (yes_no (is_si (bytes "007")) says bytes "yes")
    ∷ (yes_no (is_si (bytes "-1")) says bytes "no")
    ∷ (yes_no (is_stamp (bytes "20240305101501")) says bytes "yes")
    ∷ (yes_no (is_stamp (bytes "2024030510+0100")) says bytes "no")
    ∷ (yes_no (is_reply_number (bytes "k1")) says bytes "no")
    ∷ []

unfoldable pub faults : List Example
faults =
    -- a segment of a name alone, and one whose last field is not there
    (desk (with_obx "OBX") says bytes "fault OBX 1 1 1 0 0 101 3")
    ∷ (desk (with_pid "PID|1||A55||LANE") says bytes "fault PID 1 7 1 0 0 101 3")
    -- the succession and the end
    ∷ (desk (message (msh ∷ pid ∷ obr ∷ pid ∷ [])) says bytes "fault PID 2 0 0 0 0 100 1")
    ∷ (desk (message (msh ∷ pid ∷ obr ∷ "ORC|RE" ∷ [])) says bytes "fault ORC 1 0 0 0 0 100 2")
    ∷ (desk (message (msh ∷ pid ∷ obr ∷ "ZZZ" ∷ [])) says bytes "accepted")
    ∷ (desk (message (msh ∷ "ZZZ" ∷ [])) says bytes "fault MSH 1 0 0 0 0 100 2")
    -- occurrences are counted by name: the third OBX has the fault
    ∷ (desk two_groups says bytes "fault OBX 3 5 1 1 1 102 6")
    -- a repetition that is only ^ is not filled
    ∷ (desk (with_pid "PID|1||^||LANE||20240301") says bytes "fault PID 1 3 1 0 0 101 3")
    ∷ (desk (with_pid "PID|1||^~A55||LANE||20240301") says bytes "fault PID 1 3 1 0 0 101 3")
    ∷ (desk (with_pid "PID|1||A55~^||LANE||20240301") says bytes "accepted")
    ∷ (desk (with_pid "PID|1||A~A~A~A~A~||LANE||20240301") says bytes "fault PID 1 3 6 0 0 102 4")
    -- a field's repetitions come before the next field
    ∷ (desk (with_pid "PID|x||A~A~A~A~A~A||LANE||20240301") says bytes "fault PID 1 1 1 1 1 102 7")
    -- unlisted content is never judged: components, subcomponents, fields
    ∷ (desk (with_pid "PID|1|\\|A55^9^\\&x^NHS&1.2&ISO&\\^MR^\\|\\|LANE||20240301") says bytes "accepted")
    ∷ (desk (with_pid "PID|1||A55^^^\\||LANE||20240301") says bytes "fault PID 1 3 1 4 1 102 6")
    -- PID-3 filled by another leaf than its first
    ∷ (desk (with_pid "PID|1||^^^NHS||LANE||20240301") says bytes "fault PID 1 3 1 1 1 101 3")
    -- an added component doesn't make a good value too long
    ∷ (desk (with_obx "OBX|1|NM|1^2^3|ABCDEFGHIJKLMNOPQRST^more|3.16||||||F") says bytes "accepted")
    -- two quotation marks are a text like any other
    ∷ (desk (with_pid "PID|1||A55||\"\"||20240301") says bytes "accepted")
    ∷ (desk (with_pid "PID|1||A55||LANE||\"\"") says bytes "fault PID 1 7 1 1 1 102 7")
    -- the lists, and the reasons of the header's own
    ∷ (desk (with_pid "PID|1||A55||LANE||20240301|X") says bytes "fault PID 1 8 1 1 1 103 8")
    ∷ (desk (with_msh "MSH|^~\\&||L||||2024||ACK^R01|C7|P|2.5.1") says bytes "fault MSH 1 7 1 0 0 101 3")
    ∷ (desk (with_msh "MSH|^~\\&||L|||2024||ACK^R01|C7|P|2.5.1") says bytes "fault MSH 1 9 1 1 1 200 9")
    ∷ (desk (with_msh "MSH|^~\\&||L|||2024||ORU^R02|C7|P|2.5.1") says bytes "fault MSH 1 9 1 2 1 201 10")
    ∷ (desk (with_msh "MSH|^~\\&||L|||2024||ORU^R01|C7|Q|2.5.1") says bytes "fault MSH 1 11 1 1 1 202 11")
    ∷ (desk (with_msh "MSH|^~\\&||L|||2024||ORU^R01|C7|P|2.5") says bytes "fault MSH 1 12 1 1 1 203 12")
    ∷ (desk (with_msh "MSH|^~\\&||L|||2024||ORU|C7|P|2.5.1") says bytes "fault MSH 1 9 1 2 1 101 3")
    ∷ []

unfoldable pub observations : List Example
observations =
    (typed "SN" ">^3.1^-^4" says bytes "accepted")
    ∷ (typed "SN" ">^3.x^-^4" says bytes "fault OBX 1 5 1 2 1 102 7")
    ∷ (typed "CE" "^Text" says bytes "fault OBX 1 5 1 1 1 101 3")
    ∷ (typed "CE" "^^^^^^\\" says bytes "accepted")
    ∷ (typed "DTM" "20241301" says bytes "fault OBX 1 5 1 1 1 102 7")
    ∷ (typed "TM" "2400" says bytes "fault OBX 1 5 1 1 1 102 7")
    -- OBX-2 empty: missing where OBX-5 is filled by its first component
    ∷ (typed "" "3.16" says bytes "fault OBX 1 2 1 0 0 101 3")
    ∷ (typed "" "^3.16" says bytes "accepted")
    ∷ (typed "NM" "" says bytes "accepted")
    -- OBX-2 not in its list, longer than its limit, and with more than its first leaf
    ∷ (typed "XX" "3.1x" says bytes "fault OBX 1 2 1 1 1 103 8")
    ∷ (typed "NMNM" "3.1x" says bytes "fault OBX 1 2 1 1 1 102 5")
    ∷ (typed "NM&x^y" "3.1x" says bytes "fault OBX 1 5 1 1 1 102 7")
    ∷ (typed "~NM" "" says bytes "fault OBX 1 2 2 0 0 102 4")
    -- limits: 199 for ST, 4,096 for FT
    ∷ (desk (valued (bytes "ST") (letters 199)) says bytes "accepted")
    ∷ (desk (valued (bytes "ST") (letters 200)) says bytes "fault OBX 1 5 1 1 1 102 5")
    ∷ (desk (valued (bytes "FT") (letters 4096)) says bytes "accepted")
    ∷ (desk (valued (bytes "FT") (letters 4097)) says bytes "fault OBX 1 5 1 1 1 102 5")
    ∷ []

-- no such day: in each leaf that holds a date, with hours, seconds and a zone after it, and in a stamp
unfoldable pub days : List Example
days =
    (desk (with_pid "PID|1||A55||LANE||20240230") says bytes "fault PID 1 7 1 1 1 102 13")
    ∷ (desk (with_pid "PID|1||A55||LANE||20240229") says bytes "accepted")
    ∷ (desk (with_msh "MSH|^~\\&||L|||20230229||ORU^R01|C7|P|2.5.1") says bytes "fault MSH 1 7 1 1 1 102 13")
    ∷ (desk (message (msh ∷ pid ∷ "OBR|1||F9|54089-8|||202304312359" ∷ [])) says bytes "fault OBR 1 7 1 1 1 102 13")
    ∷ (desk (with_obx "OBX|1||T||||||||F|||20230631000000.5+0100") says bytes "fault OBX 1 14 1 1 1 102 13")
    ∷ (typed "DTM" "19000229" says bytes "fault OBX 1 5 1 1 1 102 13")
    ∷ (typed "DTM" "20000229" says bytes "accepted")
    ∷ (typed "DTM" "21000229-0500" says bytes "fault OBX 1 5 1 1 1 102 13")
    -- a text without a day; a day that no month has is not of the form
    ∷ (typed "DTM" "2023" says bytes "accepted")
    ∷ (typed "DTM" "202302" says bytes "accepted")
    ∷ (typed "DTM" "202302+0231" says bytes "accepted")
    ∷ (typed "DTM" "20240231" says bytes "fault OBX 1 5 1 1 1 102 13")
    ∷ (typed "DTM" "20240232" says bytes "fault OBX 1 5 1 1 1 102 7")
    ∷ (typed "DTM" "20240200" says bytes "fault OBX 1 5 1 1 1 102 7")
    ∷ (typed "DTM" "2024023024" says bytes "fault OBX 1 5 1 1 1 102 7")
    -- other types name no day
    ∷ (typed "ST" "20240230" says bytes "accepted")
    ∷ (typed "NM" "20240230" says bytes "accepted")
    ∷ (typed "TM" "23" says bytes "accepted")
    ∷ (typed "TM" "0230" says bytes "accepted")
    ∷ (typed "TM" "20240230" says bytes "fault OBX 1 5 1 1 1 102 7")
    -- the year 0000 is a leap year by the rule, as every four-hundredth
    ∷ (typed "DTM" "00000229" says bytes "accepted")
    ∷ (typed "DTM" "01000229" says bytes "fault OBX 1 5 1 1 1 102 13")
    -- the reply says the condition; a stamp is told as 11, before 12
    ∷ (decimal (condition 13) says bytes "102")
    ∷ (reply_to (with_pid "PID|1||A55||LANE||20240230")
    says message
    ("MSH|^~\\&|DEPOT|D1|LABSYS|LAB1|20240305101501||ACK^R01^ACK|K1|P|2.5.1"
    ∷ "MSA|AE|C7"
    ∷ "ERR||PID^1^7^1^1^1|102^Data type error^HL70357|E"
    ∷ []))
    ∷ (outcome (reply profile01 M (bytes "20240230101501") [] 0) says bytes "refused 11")
    ∷ (outcome (reply profile01 M (bytes "20240229101501") [] 0) says bytes "refused 12")
    ∷ []

-- M with the header's leaves as told
abbrev headed : string.String → Text
headed s = reply_to (with_msh s)

unfoldable pub replies : List Example
replies =
    (reply_to M
    says message ("MSH|^~\\&|DEPOT|D1|LABSYS|LAB1|20240305101501||ACK^R01^ACK|K1|P|2.5.1" ∷ "MSA|AA|C7" ∷ []))
    -- too long or with a bad escape left empty, trailing empty components dropped, an unknown processing id P
    ∷ (headed "MSH|^~\\&|A^\\^ISO^x|L&y^^~z|ABCDEFGHIJKLMNOPQRSTU^b|^^|2024||ORU^R01|C\\T\\7|Q|2.5.1"
    says message
    ("MSH|^~\\&|^b||A^^ISO|L|20240305101501||ACK^R01^ACK|K1|P|2.5.1"
    ∷ "MSA|AE|C\\T\\7"
    ∷ "ERR||MSH^1^3^1^2^1|102^Data type error^HL70357|E"
    ∷ []))
    ∷ (reply_to (message (msh ∷ obr ∷ []))
    says message
    ("MSH|^~\\&|DEPOT|D1|LABSYS|LAB1|20240305101501||ACK^R01^ACK|K1|P|2.5.1"
    ∷ "MSA|AE|C7"
    ∷ "ERR||OBR^1|100^Segment sequence error^HL70357|E"
    ∷ []))
    ∷ (headed "MSH|^~\\&||L|||2024||ORU^R01|C7|P|2.3"
    says message
    ("MSH|^~\\&||||L|20240305101501||ACK^R01^ACK|K1|P|2.5.1"
    ∷ "MSA|AR|C7"
    ∷ "ERR||MSH^1^12^1^1^1|203^Unsupported version id^HL70357|E"
    ∷ []))
    -- of a place only trailing zeros are left off
    ∷ (place_text (place (bytes "OBX") 1 0 5 0 0) says bytes "OBX^1^0^5")
    -- a number that is no reason has no condition
    ∷ (decimal (condition 0) says bytes "0")
    ∷ (decimal (condition 14) says bytes "0")
    -- the order of refusals
    ∷ (outcome (reply profile01 [] [] [] 0) says bytes "refused 1")
    ∷ (outcome (reply profile01 M (bytes "20241305101501") [] 0) says bytes "refused 11")
    ∷ (outcome (reply profile01 M (bytes "20240305101501") [] 0) says bytes "refused 12")
    ∷ (outcome (reply profile01 M (bytes "20240305101501") (letters 21) 0) says bytes "refused 12")
    ∷ (outcome (reply profile01 M (bytes "20240305101501") (letters 20) 96) says bytes "refused 14")
    ∷ []

-- M with the longest values: of escapes alone, of letters and an escape, of letters
abbrev longest : Text
longest =
    bytes "MSH|^~\\&|LABSYS|LAB1|DEPOT|D1|20240305101500||ORU^R01^ORU_R01|" ++ ampersands 20 ++ bytes "|P|2.5.1" ++ (cr ∷ [])
    ++ bytes "PID|1||" ++ ampersands 199 ++ bytes "||LANE^JANE||20240301" ++ (cr ∷ [])
    ++ bytes "OBR|1|" ++ letters 198 ++ ampersands 1 ++ bytes "|" ++ letters 199 ++ bytes "|" ++ letters 199 ++ bytes "|||20240304" ++ (cr ∷ [])

abbrev longest_slip : Text
longest_slip =
    (1 ∷ 0 ∷ 20 ∷ replicate 20 (byte "&"))
    ++ (2 ∷ 0 ∷ 199 ∷ replicate 199 (byte "&"))
    ++ (3 ∷ 0 ∷ 199 ∷ (letters 198 ++ bytes "&"))
    ++ (4 ∷ 0 ∷ 199 ∷ letters 199)
    ++ (5 ∷ 0 ∷ 199 ∷ letters 199)
    ++ (6 ∷ 0 ∷ 2 ∷ 0 ∷ 0 ∷ replicate 188 0)

unfoldable pub slips : List Example
slips =
    (slip_filed longest 1 says longest_slip)
    ∷ (yes_no (is_slip longest_slip) says bytes "yes")
    -- group 2 names its own OBR and counts its own OBX
    ∷ (drop 11 (take 41 (slip_filed two_orders 2))
    says ((3 ∷ 0 ∷ 3 ∷ bytes "P&1") ++ (4 ∷ 0 ∷ 3 ∷ bytes "F10") ++ (5 ∷ 0 ∷ 7 ∷ bytes "54090-6") ++ (6 ∷ 0 ∷ 2 ∷ 0 ∷ 1 ∷ 0 ∷ 0 ∷ 0 ∷ [])))
    ∷ (drop 26 (take 31 (slip_filed two_orders 1)) says (6 ∷ 0 ∷ 2 ∷ 0 ∷ 2 ∷ []))
    -- the order of refusals; a slot number whose product with 1,024 would wrap
    ∷ (outcome (file profile01 [] 0 9 []) says bytes "refused 1")
    ∷ (outcome (file profile01 two_groups 0 9 []) says bytes "refused 15")
    ∷ (slip_filed M 0 says bytes "refused 16")
    ∷ (slip_filed M 2 says bytes "refused 16")
    ∷ (outcome (file profile01 M 1 1 (replicate 2047 0)) says bytes "refused 17")
    ∷ (outcome (file profile01 M 1 (2 ^ 54) (replicate 2048 0)) says bytes "refused 17")
    ∷ (yes_no (is_slip (replicate 1024 0)) says bytes "no")
    -- a byte after the count
    ∷ (yes_no (is_slip (take 1023 longest_slip ++ (1 ∷ []))) says bytes "no")
    ∷ []

-- a book of three slots and a bit: M's slip in its second
abbrev book : Text
book = replicate 1024 255 ++ P3 ++ replicate 1052 255

unfoldable pub books : List Example
books =
    -- a filed slip changes its own slot
    (book_after (given P3) 1 (replicate 3100 255) says book)
    -- reading back
    ∷ (part_line (read_slip book 1 1) says bytes "1027 1029")
    ∷ (part_line (read_slip book 1 2) says bytes "1032 1035")
    ∷ (part_line (read_slip book 1 3) says bytes "refused 19")
    ∷ (part_line (read_slip book 1 6) says bytes "1053 1055")
    ∷ (part_line (read_slip book 1 7) says bytes "refused 19")
    ∷ (part_line (read_slip book 0 7) says bytes "refused 18")
    ∷ (part_line (read_slip book 3 1) says bytes "refused 17")
    ∷ []
