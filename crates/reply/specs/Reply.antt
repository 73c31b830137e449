-- An entry's promise is made of this.
-- The reply to a message: its exact bytes, or the first refusal.
use Rattle.std.specs.Prelude.{ℕ, Bool, not, ◌||◌, List, [], ◌∷◌, ◌++◌, length, ltb}
use Rattle.text.specs.Bytes.{Text, bytes, cr, empty}
use Rattle.text.specs.Answer.{Answer, Test, test, first}
use Rattle.text.specs.Marks.{usual, marks_of}
use Rattle.types.specs.Types.{is_stamp, is_reply_number}
use Rattle.text.specs.declared.refusal.Refusal.TheVariants.{BadStamp, BadReplyNumber, NoControlNumber, NoRoom}
use Rattle.parts.specs.Split.{join, closed}
use Rattle.frame.specs.Frame.{frame_tests}
use Rattle.profile.specs.Table.{Table}
use Rattle.profile.specs.Limits.{control_limit}
use Rattle.reader.specs.Fault.{Verdict, verdict}
use Rattle.heading.specs.Header.{header_leaf, is_unfit, reply_header}
use Rattle.report.specs.Error.{code, reply_err}

abbrev pub control : Text → Text
control m = header_leaf m 10 1

-- Empty, with a bad escape, or over its limit
abbrev pub no_control : Text → Bool
no_control m = empty (control m) || is_unfit (marks_of m) control_limit (control m)

abbrev pub reply_msa : Text → Verdict → Text
reply_msa m v = join usual.field (bytes "MSA" ∷ code v ∷ control m ∷ [])

-- THE BYTES of the reply: its segments, each ended by CR
unfoldable pub reply_text : Table → Text → Text → Text → Text
reply_text T m stamp number =
    closed cr (reply_header m stamp number ∷ reply_msa m (verdict T m) ∷ reply_err (verdict T m))

-- no reply exceeds it
abbrev pub longest_reply : ℕ
longest_reply = 3200

-- its own tests, and those of the frame before them
abbrev pub own_tests : Table → Text → Text → Text → ℕ → List Test
own_tests T m stamp number room =
    -- 11 BAD STAMP: stamp isn't 14 digits that form a DTM whose day exists
    test BadStamp (not (is_stamp stamp))
    -- 12 BAD REPLY NUMBER: not 1..20 capitals or digits
    ∷ test BadReplyNumber (not (is_reply_number number))
    -- 13 NO CONTROL NUMBER: MSH-10 leaf Empty, with a bad escape, or over its limit
    ∷ test NoControlNumber (no_control m)
    -- 14 NO ROOM: lent buffer shorter than the output
    ∷ test NoRoom (ltb room (length (reply_text T m stamp number)))
    ∷ []

abbrev pub reply_tests : Table → Text → Text → Text → ℕ → List Test
reply_tests T m stamp number room =
    -- 1 to 8
    frame_tests m
    -- 11 to 14
    ++ own_tests T m stamp number room

-- THE REPLY, for a stamp, a reply number and the length of the lent buffer: 1 to 8, 11 to 14, or the bytes written
unfoldable pub reply : Table → Text → Text → Text → ℕ → Answer Text
reply T m stamp number room = first (reply_tests T m stamp number room) (reply_text T m stamp number)
