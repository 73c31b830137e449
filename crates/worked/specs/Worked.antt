-- A demand is said with this.
-- P1 to P12 as one list: what the definitions give, and what 01 says.
use Rattle.std.specs.Prelude.{◌-◌, ◌≡◌, List, [], ◌∷◌, length, take, replicate}
use Rattle.text.specs.Bytes.{Text, bytes}
use Rattle.worked.specs.Messages.{message, msh, pid, obr, obx, M, with_msh, with_pid, with_obx, with_line, desk, reply_to, slip_filed}

pub record Example : Type 0 where
  pub given : Text
  pub said : Text

abbrev pub ◌says◌ : Text → Text → Example
◌says◌ a b = record { given = a; said = b }

infix 60 ◌says◌
-- those of the twelve that are named elsewhere too: four messages and M's slip
abbrev pub P1 : Text
P1 = M

abbrev pub P2 : Text
P2 = with_obx "OBX|1|NM|45222-7^C4-DC^LN||3.1x|umol/L|||||F"

abbrev pub P3 : Text
P3 =
    0x01 ∷ 0x00 ∷ 0x02 ∷ 0x43 ∷ 0x37
    ∷ 0x02 ∷ 0x00 ∷ 0x03 ∷ 0x41 ∷ 0x35 ∷ 0x35
    ∷ 0x04 ∷ 0x00 ∷ 0x02 ∷ 0x46 ∷ 0x39
    ∷ 0x05 ∷ 0x00 ∷ 0x07 ∷ 0x35 ∷ 0x34 ∷ 0x30 ∷ 0x38 ∷ 0x39 ∷ 0x2D ∷ 0x38
    ∷ 0x06 ∷ 0x00 ∷ 0x02 ∷ 0x00 ∷ 0x01 ∷ replicate 993 0

abbrev pub P5 : Text
P5 = with_line "ZZX|a\\b"

abbrev pub P6 : Text
P6 = with_obx "OBX|1|NM|45222-7^C4-DC^LN||3.16^x|umol/L|||||F"

abbrev pub P8 : Text
P8 = with_msh "MSH|^~\\&|LABSYS|LAB1|DEPOT|D1|20240305101500||ORU^R01^ORU_R01||P|2.5.1"

-- THE TWELVE
unfoldable pub examples : List Example
examples =
    -- P1, P2
    (desk P1 says bytes "accepted")
    ∷ (desk P2 says bytes "fault OBX 1 5 1 1 1 102 7")
    -- P3
    ∷ (slip_filed P1 1 says P3)
    -- P4
    ∷ (reply_to P2
    says message
    ("MSH|^~\\&|DEPOT|D1|LABSYS|LAB1|20240305101501||ACK^R01^ACK|K1|P|2.5.1"
    ∷ "MSA|AE|C7"
    ∷ "ERR||OBX^1^5^1^1^1|102^Data type error^HL70357|E"
    ∷ []))
    -- P5, P6
    ∷ (desk P5 says bytes "accepted")
    ∷ (desk P6 says bytes "accepted")
    -- P7
    ∷ (desk (message (msh ∷ obr ∷ obx ∷ [])) says bytes "fault OBR 1 0 0 0 0 100 1")
    -- P8, its line and its reply
    ∷ (desk P8 says bytes "fault MSH 1 10 1 0 0 101 3")
    ∷ (reply_to P8 says bytes "refused 13")
    -- P9
    ∷ (desk (take (length M - 1) M) says bytes "refused 5")
    -- P10
    ∷ (desk (message (msh ∷ pid ∷ [])) says bytes "fault PID 1 0 0 0 0 100 2")
    -- P11
    ∷ (desk (with_pid "PID|1||A~A~A~A~A~A||LANE^JANE||20240301") says bytes "fault PID 1 3 6 0 0 102 4")
    -- P12, of 20 letters and of 21
    ∷ (desk (with_obx "OBX|1|NM|45222-7^C4-DC^LN|ABCDEFGHIJKLMNOPQRST|3.16|umol/L|||||F") says bytes "accepted")
    ∷ (desk (with_obx "OBX|1|NM|45222-7^C4-DC^LN|ABCDEFGHIJKLMNOPQRSTU|3.16|umol/L|||||F")
    says bytes "fault OBX 1 4 1 1 1 102 5")
    ∷ []

abbrev pub AllHold : List Example → Type 0
AllHold [] = Unit
AllHold (e ∷ es) = (e.given ≡ e.said) × AllHold es
