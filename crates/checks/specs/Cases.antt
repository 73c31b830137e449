-- No entry's promise is made of this: it tries the definitions.
-- Verdicts and look-ups on short messages, each the shortest that a wrong reading of 01 would answer otherwise.
use Rattle.std.specs.Prelude.{ℕ, ◌≡◌, true, false, List, [], ◌∷◌, map}
use Prim.Native.String.{String}
use Rattle.text.specs.Bytes.{Text, bytes, cr}
use Rattle.text.specs.Answer.{refused}
use Rattle.text.specs.declared.refusal.Refusal.TheVariants.{BadPlace, NoSegment}
use Rattle.text.specs.Marks.{usual}
use Rattle.parts.specs.Split.{closed}
use Rattle.profile.specs.Table.{DTM, ST, Leaf, any, only}
use Rattle.profile.specs.Profile.{profile01}
use Rattle.checks.specs.Place.{place}
use Rattle.checks.specs.LookUp.{look_up}
use Rattle.checks.specs.Fault.{Verdict, accepted, fault, leaf_checks, first_broken, verdict}

pub record Case : Type 0 where
  pub lines : List String
  pub said : Verdict

abbrev pub ◌is◌ : List String → Verdict → Case
◌is◌ ls v = record { lines = ls; said = v }

infix 60 ◌is◌
abbrev pub message : Case → Text
message c = closed cr (map bytes c.lines)

abbrev pub told : Case → Verdict
told c = verdict profile01 (message c)

abbrev pub wanted : Case → Verdict
wanted c = c.said

-- four segments with no more than they must have
abbrev pub msh : String
msh = "MSH|^~\\&||L|||2024||ORU^R01|C|P|2.5.1"

abbrev pub pid : String
pid = "PID|||A||B||2024"

abbrev pub obr : String
obr = "OBR|1||F|S|||2024"

abbrev pub obx : String
obx = "OBX|1||T||||||||F"

abbrev pub at : String → ℕ → ℕ → ℕ → ℕ → ℕ → ℕ → Verdict
at n o f r c b reason = fault (place (bytes n) o f r c b) reason

abbrev pub with_pid : String → List String
with_pid s = msh ∷ s ∷ obr ∷ obx ∷ []

abbrev pub with_obx : String → List String
with_obx s = msh ∷ pid ∷ obr ∷ s ∷ []

abbrev pub cases : List Case
cases =
    (with_obx obx is accepted)
    -- a bad escape in a segment, a field, a component and a subcomponent that the table does not list
    ∷ (msh ∷ pid ∷ "ZZX|a\\b" ∷ obr ∷ obx ∷ [] is accepted)
    ∷ (with_pid "PID||\\|A||B||2024" is accepted)
    ∷ (with_obx "OBX|1||T^^^^^^\\||||||||F" is accepted)
    ∷ (with_obx "OBX|1||T&\\||||||||F" is accepted)
    -- a component that is added to a value of the greatest length
    ∷ (with_obx "OBX|1||T|ABCDEFGHIJKLMNOPQRST^x|||||||F" is accepted)
    -- out of place; an end that may not stand there
    ∷ (msh ∷ obr ∷ obx ∷ [] is at "OBR" 1 0 0 0 0 1)
    ∷ (msh ∷ pid ∷ [] is at "PID" 1 0 0 0 0 2)
    -- too many repetitions are told before a missing field
    ∷ (with_pid "PID|||A||~~B||2024" is at "PID" 1 5 3 0 0 4)
    -- OBX-2 is required where OBX-5 is filled, and only there
    ∷ (with_obx "OBX|1||T||x||||||F" is at "OBX" 1 2 1 0 0 3)
    -- a later repetition is judged, and the first broken one is told
    ∷ (with_pid "PID|||A~^^^x~^^^^y||B||2024" is at "PID" 1 3 2 1 1 3)
    -- a bad escape is told before too long, and too long before the type
    ∷ (with_obx "OBX|1||T|ABCDEFGHIJKLMNOPQRST\\|||||||F" is at "OBX" 1 4 1 1 1 6)
    ∷ (with_obx "OBX|1\\||T||||||||F" is at "OBX" 1 1 1 1 1 6)
    ∷ (with_obx "OBX|1234x||T||||||||F" is at "OBX" 1 1 1 1 1 5)
    -- a limit is for the text that a person reads: here 20 bytes, and 21
    ∷ (with_obx "OBX|1||T|R \\T\\ D \\T\\ K Care, West|||||||F" is accepted)
    ∷ (with_obx "OBX|1||T|R \\T\\ D \\T\\ K Care, North|||||||F" is at "OBX" 1 4 1 1 1 5)
    -- a type is for what is written: six bytes that read as two are within an SI's limit, and are no digits
    ∷ (with_obx "OBX|\\E\\\\E\\||T||||||||F" is at "OBX" 1 1 1 1 1 7)
    -- a date in the form whose month has no such day, and one that is not in the form
    ∷ (with_pid "PID|||A||B||20240231" is at "PID" 1 7 1 1 1 13)
    ∷ (with_pid "PID|||A||B||20240232" is at "PID" 1 7 1 1 1 7)
    ∷ (with_pid "PID|||A||B||20240229" is accepted)
    -- an occurrence is counted among those of its name
    ∷ (msh ∷ pid ∷ "ZZX" ∷ obr ∷ obx ∷ "OBX|x||T||||||||F" ∷ [] is at "OBX" 2 1 1 1 1 7)
    -- a list with a reason of its own, and one without
    ∷ ("MSH|^~\\&||L|||2024||ORM^R01|C|P|2.5.1" ∷ pid ∷ obr ∷ obx ∷ [] is at "MSH" 1 9 1 1 1 9)
    ∷ (with_obx "OBX|1||T||||||||Q" is at "OBX" 1 11 1 1 1 8)
    ∷ []

-- THE DEFINITION SAYS SO of each
abbrev pub CasesHold : Type 0
CasesHold = map told cases ≡ map wanted cases

-- a place that may not be asked for is told before a segment that is not there
abbrev pub PlaceBeforeSegment : Type 0
PlaceBeforeSegment =
    (look_up (closed cr (bytes msh ∷ [])) (place (bytes "ZZX") 513 1 1 1 1) ≡ refused BadPlace)
    × (look_up (closed cr (bytes msh ∷ [])) (place (bytes "ZZX") 512 1 1 1 1) ≡ refused NoSegment)

-- LEAVES SUCH AS 01'S TABLE HAS NONE
abbrev pub told_leaf : Leaf → String → Verdict
told_leaf l s = first_broken (leaf_checks usual (place (bytes "ZZX") 1 1 1 1 1) l (bytes s))

abbrev pub here : ℕ → Verdict
here reason = at "ZZX" 1 1 1 1 1 reason

-- with a limit that a practice's name just meets when it is read: one byte more is too long, but a bad escape in it is told first
abbrev pub practice : Leaf
practice = record { component = 1; subcomponent = 1; type = ST; star = false; limit = 14; list = any }

abbrev pub LimitAsRead : Type 0
LimitAsRead =
    map (told_leaf practice)
    ("R \\T\\ D \\T\\ K Care" ∷ "R \\T\\ D \\T\\ K Care." ∷ "R \\T\\ D \\X\\ K Care." ∷ "R \\T\\ D \\T\\ K Care.\\" ∷ "R and D and K C." ∷ [])
    ≡ accepted ∷ here 5 ∷ here 6 ∷ here 6 ∷ here 5 ∷ []

-- with a date and a list: bad escape, too long, form, day, list, in this order
abbrev pub dated : Leaf
dated =
    record {
      component = 1;
      subcomponent = 1;
      type = DTM;
      star = true;
      limit = 14;
      list = only (bytes "20240229" ∷ bytes "20240231" ∷ []) 8;
    }

abbrev pub DayBeforeList : Type 0
DayBeforeList =
    map (told_leaf dated)
    ("" ∷ "20240230101500Z\\" ∷ "20240230101500Z" ∷ "20240232" ∷ "20240230" ∷ "20240231" ∷ "20240228" ∷ "20240229" ∷ [])
    ≡ here 3 ∷ here 6 ∷ here 5 ∷ here 7 ∷ here 13 ∷ here 13 ∷ here 8 ∷ accepted ∷ []
