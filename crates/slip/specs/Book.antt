-- An entry's promise is made of this.
-- Filing a group's slip in a slot of the book: 1 to 8, 15 to 17, or the slip filed.
use Rattle.std.specs.Prelude.{ℕ, ◌+◌, Bool, true, false, not, ◌||◌, List, [], ◌∷◌, ◌++◌, length, take, drop, eqb, ltb}
use Rattle.text.specs.Bytes.{Text, bytes}
use Rattle.text.specs.Answer.{Answer, refused, given, Test, test, first}
use Rattle.text.specs.declared.refusal.Refusal.TheVariants.{NotAccepted, NoGroup, NoSlot}
use Rattle.frame.specs.Segments.{segments, of_name}
use Rattle.frame.specs.Frame.{frame_tests}
use Rattle.profile.specs.Table.{Table}
use Rattle.reader.specs.Fault.{Verdict, accepted, fault, verdict}
use Rattle.slot.specs.Slot.{slot_size, slot_start, no_slot}
use Rattle.slip.specs.Slip.{slip_text}

abbrev pub is_accepted : Verdict → Bool
is_accepted accepted = true
is_accepted (fault p n) = false

-- group 0, or above the number of OBR
abbrev pub no_group : Text → ℕ → Bool
no_group m g = eqb g 0 || ltb (length (of_name (bytes "OBR") (segments m))) g

-- the tests of an accepted message, and those before them
abbrev pub own_tests : Text → ℕ → ℕ → Text → List Test
own_tests m g k book =
    -- 16 NO GROUP: group is 0 or above the number of OBR
    test NoGroup (no_group m g)
    -- 17 NO SLOT: slot k (from 0) isn't below book length divided by 1,024, rounded down
    ∷ test NoSlot (no_slot book k)
    ∷ []

abbrev pub file_tests : Table → Text → ℕ → ℕ → Text → List Test
file_tests T m g k book =
    -- 1 to 8
    frame_tests m
    -- 15 NOT ACCEPTED: the message has a fault
    ++ (test NotAccepted (not (is_accepted (verdict T m)))
    -- 16, 17
    ∷ own_tests m g k book)

-- FILING group g in slot k
unfoldable pub file : Table → Text → ℕ → ℕ → Text → Answer Text
file T m g k book = first (file_tests T m g k book) (slip_text m g)

-- THE BOOK afterwards: its slot is the slip and every other byte is as it was; a refusal writes nothing
abbrev pub book_after : Answer Text → ℕ → Text → Text
book_after (refused r) k book = book
book_after (given slip) k book = take (slot_start k) book ++ slip ++ drop (slot_start k + slot_size) book
