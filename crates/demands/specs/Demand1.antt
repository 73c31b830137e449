-- A demand is said with this.
-- DEMAND 1: ANSWERED, ENDED, UNTOUCHED. The user must be certain that every message and every call gets an answer and ends; that a
-- refusal carries the first number that applies in 01's order, and leaves the slip book or the reply buffer byte for byte as it was;
-- and that a filed slip changes its own slot and nothing else.
--
-- An entry is proved for any input, with nothing asked of its caller: it ends, and what it answers and leaves is what it promises
-- (`called/src/lib.rt` calls four of the six entries under these promises, Promises.antt has the other two). Here stands what the promises come to, entry by
-- entry: there is one answer and only one, its refusals come in 01's order, and a refusal leaves what was lent.
use Rattle.std.specs.Prelude.{◌≡◌, ◌⊎◌, ℕ, ◌+◌, ◌≤◌, ◌<◌, true, List, [], ◌∷◌, ◌++◌, map, length, get_or, Ok}
use Rattle.std.specs.Borrow.{Bor}
use Rattle.text.specs.Bytes.{Text}
use Rattle.text.specs.Answer.{Answer, refused, given, Test, passes, number_of, written_of}
use Rattle.text.specs.First.{FirstRefusal}
use Rattle.text.specs.Marks.{usual}
use Rattle.escape.specs.Escape.{resolve_tests}
use Rattle.escape.specs.Promise.{Resolves}
use Rattle.text.specs.declared.refusal.Refusal.{Refusal}
use Rattle.frame.specs.Frame.{frame_tests}
use Rattle.profile.specs.Profile.{profile01}
use Rattle.reader.specs.declared.Place.{Place}
use Rattle.reader.specs.declared.search.LookedUp.{LookedUp}
use Rattle.reader.specs.LookUp.{look_up_tests}
use Rattle.reader.specs.Told.{place_of, found_of, verdict_of}
use Rattle.text.specs.Part.{SamePart}
use Rattle.reader.specs.Promise.{LooksUp, Judges}
use Rattle.reply.specs.Reply.{reply_tests}
use Rattle.reply.specs.Promise.{Replies}
use Rattle.slip.specs.Slot.{slot_size, slot_start}
use Rattle.slip.specs.Book.{file_tests}
use Rattle.slip.specs.Told.{filed_of}
use Rattle.slip.specs.Promise.{Files}
use Rattle.book.specs.declared.reading.SlipValue.{SlipValue}
use Rattle.book.specs.Read.{read_tests}
use Rattle.book.specs.Told.{value_of}
use Rattle.book.specs.Promise.{ReadsSlip}

-- the numbers of refusals, in the order in which they are tested
abbrev pub refusal_numbers : List Test → List ℕ
refusal_numbers ts = map (λ (t : Test). number_of t.refusal) ts

-- AN ANSWER IN ORDER: a refusal is the first that applies, and what was asked for is given only where none applies
pub record InOrder {A : Type 0} (order : List ℕ) (ts : List Test) (a : Answer A) : Type 0 where
  pub numbered : refusal_numbers ts ≡ order
  pub refusal : (r : Refusal) → a ≡ refused r → FirstRefusal ts r
  pub otherwise : (x : A) → a ≡ given x → passes ts ≡ true

-- A CALL THAT ONLY READS. `promised r` means that the promise allows the answer r, `told r` is what r tells, and `alike` says when two
-- answers are one; `order` has 01's numbers for the refusals ts
pub record Answers {R A : Type 0} (promised : R → Type 0) (alike : R → R → Type 0) (told : R → Answer A) (order : List ℕ) (ts : List Test) : Type 0 where
  pub there-is-one : (r : R) × promised r
  pub only_one : (r s : R) → promised r → promised s → alike r s
  pub in_order : (r : R) → promised r → InOrder order ts (told r)

-- A CALL THAT MAY WRITE. `promised r after` means that the promise allows the answer r with lent memory that held `before` and then
-- holds `after`
pub record Writes {R A : Type 0} (promised : R → Text → Type 0) (before : Text) (told : R → Answer A) (order : List ℕ) (ts : List Test) : Type 0 where
  pub there-is-one : (r : R) × ((after : Text) × promised r after)
  pub only_one : (r s : R) (after after' : Text) → promised r after → promised s after' → (r ≡ s) × (after ≡ after')
  pub in_order : (r : R) (after : Text) → promised r after → InOrder order ts (told r)
  pub untouched : (r : R) (after : Text) (n : Refusal) → promised r after → told r ≡ refused n → after ≡ before

-- two look-ups, and two readings of a slip: the same answer, and the same part of the same block of memory
abbrev pub same_look_up : LookedUp → LookedUp → Type 0
same_look_up r s = (r.sort ≡ s.sort) × SamePart r.text s.text

abbrev pub same_value : SlipValue → SlipValue → Type 0
same_value r s = (r.sort ≡ s.sort) × SamePart r.value s.value

-- ITS OWN SLOT ONLY: every byte outside slot k is as it was, and there are as many
pub record OnlySlot (k : ℕ) (before after : Text) : Type 0 where
  pub size : length after ≡ length before
  pub elsewhere : (i : ℕ) → (i < slot_start k) ⊎ (slot_start k + slot_size ≤ i) → get_or after i 0 ≡ get_or before i 0

-- those of the frame checks
abbrev pub frame_numbers : List ℕ
frame_numbers = 1 ∷ 2 ∷ 3 ∷ 4 ∷ 5 ∷ 6 ∷ 7 ∷ 8 ∷ []

-- DEMAND 1
pub record Demand1 : Type 0 where
  -- JUDGING a message: 1 to 8
  pub judge : (m : Text) → Answers (Judges profile01 m) ◌≡◌ verdict_of frame_numbers (frame_tests m)
  -- LOOKING UP a place: 1 to 8, 9, 10
  pub look_up :
      (m : Bor Text) (p : Place)
      → Answers (LooksUp m p) same_look_up (λ r. found_of r.sort) (frame_numbers ++ (9 ∷ 10 ∷ [])) (look_up_tests m.now (place_of p))
  -- REPLYING, for a stamp and a reply number, into a buffer that held `before`: 1 to 8, 11 to 14
  pub reply :
      (m stamp number before : Text)
      → Writes (Replies profile01 m stamp number before) before written_of
      (frame_numbers ++ (11 ∷ 12 ∷ 13 ∷ 14 ∷ [])) (reply_tests profile01 m stamp number (length before))
  -- FILING a group in a slot of a book that held `before`: 1 to 8, 15 to 17
  pub file :
      (m : Text) (group slot : ℕ) (before : Text)
      → Writes (Files profile01 m group slot before) before filed_of
      (frame_numbers ++ (15 ∷ 16 ∷ 17 ∷ [])) (file_tests profile01 m group slot before)
  -- READING a tag of a slot: 17 to 19
  pub read-slip :
      (book : Bor Text) (slot tag : ℕ)
      → Answers (ReadsSlip book slot tag) same_value (λ r. value_of r.sort) (17 ∷ 18 ∷ 19 ∷ []) (read_tests book.now slot tag)
  -- RESOLVING a text into a buffer that held `before`: 20, then 14
  pub resolve :
      (t before : Text)
      → Writes (Resolves t before) before written_of (20 ∷ 14 ∷ []) (resolve_tests usual t (length before))
  -- A FILED SLIP changes its own slot and nothing else
  pub own-slot :
      (m : Text) (group slot : ℕ) (before after : Text)
      → Files profile01 m group slot before (Ok tt) after → OnlySlot slot before after
