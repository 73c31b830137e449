-- A demand is said with this.
-- WHAT THE DEMANDS SAY OF THE SIX ENTRIES HOLDS OF THE SIX EXPORTED FUNCTIONS, which C and Rust call. Such a function returns a number: 0 where the
-- call is answered, else the number of the refusal. What it has to tell besides stands in a list of numbers that is lent to it, `out`.
-- The user must be certain that each call has one answer and only one; that a refusal is the first that applies in 01's order, and leaves the
-- buffer, the book and `out` as they were; that ten zeros mean accepted and any other first number is the reason, 1 to 13; that a filed slip changes its
-- own slot and nothing else; and that a newer sender's additions alter nothing.
--
-- An exported function and its entry are made of the same definition: `judge` answers what `ithwyral_judge` tells. The crate `linked` has the six functions
-- with the promises that are meant here (cabi).
use Rattle.std.specs.Prelude.{◌≡◌, ℕ, ◌≤◌, true, List, [], ◌∷◌, ◌++◌, length, get_or, replicate}
use Rattle.text.specs.Bytes.{Text, within}
use Rattle.text.specs.Answer.{Answer, given, Test, passes}
use Rattle.text.specs.Marks.{usual}
use Rattle.escape.specs.Escape.{resolve_tests, resolve}
use Rattle.frame.specs.Frame.{frame_tests, framed}
use Rattle.profile.specs.Profile.{profile01}
use Rattle.reader.specs.Place.{Place}
use Rattle.reader.specs.LookUp.{look_up_tests, look_up}
use Rattle.reader.specs.Fault.{accepted, fault, judge}
use Rattle.reply.specs.Reply.{reply_tests, reply}
use Rattle.slip.specs.Book.{file_tests, file}
use Rattle.book.specs.Read.{read_tests, read_slip}
use Rattle.demands.specs.Demand1.{InOrder, OnlySlot, frame_numbers}
use Rattle.demands.specs.Strike.{is_listed_place, strike}
use Rattle.demands.specs.Demand3.{SameAfter}
use Rattle.cabi.specs.Told.{status, place_asked}
use Rattle.cabi.specs.Promise.{JudgeTells, LookUpTells, ResolveTells, ReplyTells, FileTells, ReadTells}

-- A CALL. `a` is what the definition answers. `promised r after` means that the promise allows the number r, with lent memory that held `before`
-- and then holds `after`. `order` has 01's numbers for the refusals ts
pub record Call {A L : Type 0} (a : Answer A) (promised : ℕ → L → Type 0) (before : L) (order : List ℕ) (ts : List Test) : Type 0 where
  -- one answer, and only one
  pub there-is-one : (r : ℕ) × ((after : L) × promised r after)
  pub only_one : (r s : ℕ) (after after' : L) → promised r after → promised s after' → (r ≡ s) × (after ≡ after')
  -- the number returned is 0 or that of the refusal, the first that applies; it is 0 only where none applies
  pub number : (r : ℕ) (after : L) → promised r after → r ≡ status a
  pub in_order : InOrder order ts a
  pub zero : (after : L) → promised 0 after → passes ts ≡ true
  -- after a refusal all that was lent is as it was
  pub untouched : (r : ℕ) (after : L) → promised r after → (r ≡ 0 → ⊥) → after ≡ before

-- a buffer and numbers, both lent to one call
pub record Lent : Type 0 where
  pub buffer : Text
  pub out : List ℕ

abbrev pub Resolved : Text → Lent → ℕ → Lent → Type 0
Resolved t l r after = ResolveTells t l.buffer l.out r after.buffer after.out

abbrev pub Replied : Text → Text → Text → Lent → ℕ → Lent → Type 0
Replied m stamp number l r after = ReplyTells profile01 m stamp number l.buffer l.out r after.buffer after.out

-- THE SAME LOOK-UP in a message as it came and in the struck one: the same number, the same sort, and the same bytes from start to end
abbrev pub text_of : Text → List ℕ → Text
text_of m out = within (get_or out 1 0) (get_or out 2 0) m

pub record SameText (m m' : Text) (came struck : ℕ → List ℕ → Type 0) : Type 0 where
  pub number : (r s : ℕ) (out out' : List ℕ) → came r out → struck s out' → r ≡ s
  pub text :
      (out out' : List ℕ) → came 0 out → struck 0 out'
      → (get_or out 0 0 ≡ get_or out' 0 0) × (text_of m out ≡ text_of m' out')

-- NOTHING ALTERED: for the message as it came a call returns and leaves what it does for the struck one
pub record Unaltered (m : Text) : Type 0 where
  pub judges : (out : List ℕ) → SameAfter (JudgeTells profile01 m out) (JudgeTells profile01 (strike profile01 m) out)
  pub looks_up :
      (name : Text) (place out : List ℕ) → is_listed_place profile01 m (place_asked name place) ≡ true
      → SameText m (strike profile01 m) (LookUpTells m name place out) (LookUpTells (strike profile01 m) name place out)
  pub replies : (stamp number : Text) (l : Lent) → SameAfter (Replied m stamp number l) (Replied (strike profile01 m) stamp number l)
  pub files :
      (group slot : ℕ) (book : Text)
      → SameAfter (FileTells profile01 m group slot book) (FileTells profile01 (strike profile01 m) group slot book)

-- THE EXPORTED FUNCTIONS
pub record Exported : Type 0 where
  -- `ithwyral_judge`: 1 to 8
  pub judges : (m : Text) (out : List ℕ) → Call (judge profile01 m) (JudgeTells profile01 m out) out frame_numbers (frame_tests m)
  -- `ithwyral_look_up`: 1 to 8, 9, 10
  pub looks_up :
      (m name : Text) (place out : List ℕ)
      → Call (look_up m (place_asked name place)) (LookUpTells m name place out) out
      (frame_numbers ++ (9 ∷ 10 ∷ [])) (look_up_tests m (place_asked name place))
  -- `ithwyral_resolve`: 20, then 14
  pub resolves :
      (t : Text) (l : Lent)
      → Call (resolve usual t (length l.buffer)) (Resolved t l) l (20 ∷ 14 ∷ []) (resolve_tests usual t (length l.buffer))
  -- `ithwyral_reply`: 1 to 8, 11 to 14
  pub replies :
      (m stamp number : Text) (l : Lent)
      → Call (reply profile01 m stamp number (length l.buffer)) (Replied m stamp number l) l
      (frame_numbers ++ (11 ∷ 12 ∷ 13 ∷ 14 ∷ [])) (reply_tests profile01 m stamp number (length l.buffer))
  -- `ithwyral_file`: 1 to 8, 15 to 17
  pub files :
      (m : Text) (group slot : ℕ) (book : Text)
      → Call (file profile01 m group slot book) (FileTells profile01 m group slot book) book
      (frame_numbers ++ (15 ∷ 16 ∷ 17 ∷ [])) (file_tests profile01 m group slot book)
  -- `ithwyral_read_slip`: 17 to 19
  pub reads-slip :
      (book : Text) (slot tag : ℕ) (out : List ℕ)
      → Call (read_slip book slot tag) (ReadTells book slot tag out) out (17 ∷ 18 ∷ 19 ∷ []) (read_tests book slot tag)
  -- TEN ZEROS are told of an accepted message, and only of one
  pub ten_zeros :
      (m : Text) (out after : List ℕ) → JudgeTells profile01 m out 0 after → judge profile01 m ≡ given accepted → after ≡ replicate 10 0
  pub only-accepted :
      (m : Text) (out after : List ℕ) → JudgeTells profile01 m out 0 after → after ≡ replicate 10 0 → judge profile01 m ≡ given accepted
  -- OF A FAULT the first number is the reason, 1 to 13
  pub reason :
      (m : Text) (out after : List ℕ) (p : Place) (n : ℕ) → JudgeTells profile01 m out 0 after → judge profile01 m ≡ given (fault p n)
      → (get_or after 0 0 ≡ n) × ((1 ≤ n) × (n ≤ 13))
  -- A FILED SLIP changes its own slot and nothing else
  pub own-slot :
      (m : Text) (group slot : ℕ) (book after : Text) → FileTells profile01 m group slot book 0 after → OnlySlot slot book after
  -- A NEWER SENDER'S ADDITIONS alter nothing: of a message that passes the eight frame checks what the table does not list is struck out
  pub unaltered : (m : Text) → framed m ≡ true → Unaltered m
