-- A demand is said with this.
-- The worked message M, and what it is changed to.
use Rattle.std.specs.Prelude.{ℕ, List, [], ◌∷◌, map, replicate}
use Prim.Native.String as string
use Rattle.text.specs.Bytes.{Text, bytes, byte, cr}
use Rattle.text.specs.Answer.{Answer, refused, given}
use Rattle.parts.specs.Split.{closed, join}
use Rattle.profile.specs.Profile.{profile01}
use Rattle.reader.specs.Fault.{judge}
use Rattle.text.specs.Decimal.{decimal}
use Rattle.line.specs.Line.{desk_line, refused_line}
use Rattle.reply.specs.Reply.{reply, longest_reply}
use Rattle.slip.specs.Book.{file}
use Rattle.book.specs.Read.{Part}

-- lines, CR after each
abbrev pub message : List string.String → Text
message ls = closed cr (map bytes ls)

abbrev pub msh : string.String
msh = "MSH|^~\\&|LABSYS|LAB1|DEPOT|D1|20240305101500||ORU^R01^ORU_R01|C7|P|2.5.1"

abbrev pub pid : string.String
pid = "PID|1||A55||LANE^JANE||20240301"

abbrev pub obr : string.String
obr = "OBR|1||F9|54089-8^Panel^LN|||20240304"

abbrev pub obx : string.String
obx = "OBX|1|NM|45222-7^C4-DC^LN||3.16|umol/L|||||F"

abbrev pub M : Text
M = message (msh ∷ pid ∷ obr ∷ obx ∷ [])

-- M with another header, PID, OBR or OBX; M with a line after PID
abbrev pub with_msh : string.String → Text
with_msh s = message (s ∷ pid ∷ obr ∷ obx ∷ [])

abbrev pub with_pid : string.String → Text
with_pid s = message (msh ∷ s ∷ obr ∷ obx ∷ [])

abbrev pub with_obx : string.String → Text
with_obx s = message (msh ∷ pid ∷ obr ∷ s ∷ [])

abbrev pub with_line : string.String → Text
with_line s = message (msh ∷ pid ∷ s ∷ obr ∷ obx ∷ [])

-- M with a second group: two observations in the first, an unlisted segment after them, and one in the second
abbrev pub two_orders : Text
two_orders =
    message
    (msh ∷ pid ∷ obr ∷ obx ∷ obx ∷ "ZZZ" ∷ "ORC|RE" ∷ "OBR|2|P\\T\\1|F10|54090-6|||2024" ∷ "NTE" ∷ obx ∷ [])

-- what the desk prints
abbrev pub desk : Text → Text
desk m = desk_line (judge profile01 m)

-- the bytes that a call writes, or its refusal
abbrev pub outcome : Answer Text → Text
outcome (refused r) = refused_line r
outcome (given t) = t

abbrev pub reply_to : Text → Text
reply_to m = outcome (reply profile01 m (bytes "20240305101501") (bytes "K1") longest_reply)

-- group g in slot 0 of an empty book of one slot
abbrev pub slip_filed : Text → ℕ → Text
slip_filed m g = outcome (file profile01 m g 0 (replicate 1024 0))

-- the part of the book that is read
abbrev pub part_line : Answer Part → Text
part_line (refused r) = refused_line r
part_line (given p) = join (byte " ") (decimal p.start ∷ decimal p.end ∷ [])
