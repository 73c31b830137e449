-- A demand is said with this.
-- DEMAND 2: RIGHT. The user must be certain that a message is accepted exactly when it has no fault, and that otherwise the answer is
-- its first fault, with place and reason; that replies and slips have exactly the bytes that 01 lays down; and that a slip read back
-- gives the values filed.
--
-- The checks of a message, in the order of 01's walk, are `checks` (checks/specs/Fault.antt); the bytes of a reply are `reply_text` (reply), those of a slip
-- `slip_text` (slip). Here stands what the entries' promises say of them.
use Rattle.std.specs.Prelude.{◌≡◌, ℕ, ◌+◌, ◌≤◌, true, false, [], ◌∷◌, map, length, take, drop, Option, Some, None, Result, Ok}
use Rattle.std.proofs.Math.Option.{some}
use Rattle.std.specs.Borrow.{Bor}
use Rattle.text.specs.Bytes.{Text, empty}
use Rattle.text.specs.Marks.{usual}
use Rattle.escape.specs.Escape.{resolved}
use Rattle.escape.specs.Promise.{Resolves}
use Rattle.text.specs.declared.refusal.Refusal.{Refusal}
use Rattle.text.specs.declared.span.Span.{Span}
use Rattle.frame.specs.Frame.{framed}
use Rattle.profile.specs.Profile.{profile01}
use Rattle.reader.specs.declared.Place as code-place
use Rattle.reader.specs.declared.Fault as code
use Rattle.reader.specs.Found.TheVariants as found
use Rattle.reader.specs.declared.search.LookedUp.{LookedUp}
use Rattle.reader.specs.Place.{Place, stands_at, text_at}
use Rattle.reader.specs.Fault.{checks, condition}
use Rattle.reader.specs.First.{none_broken, FirstBroken}
use Rattle.reader.specs.Told.{place_of}
use Rattle.text.specs.Part.{VeryPart}
use Rattle.reader.specs.Promise.{LooksUp, Judges}
use Rattle.reply.specs.Reply.{reply_text, longest_reply}
use Rattle.reply.specs.Promise.{Replies}
use Rattle.slip.specs.Slot.{slot_start}
use Rattle.slip.specs.Slip.{slip_values, slip_text}
use Rattle.slip.specs.Promise.{Files}
use Rattle.book.specs.declared.reading.SlipValue.{SlipValue}
use Rattle.book.specs.Read.{expected, is_slip, value_from, slot}
use Rattle.book.specs.Told.{value_of}
use Rattle.book.specs.RoundTrip.{value_of_tag, handed_back}
use Rattle.book.specs.Promise.{ReadsSlip}
use Rattle.demands.specs.Idle.{ShutOut}

-- n BYTES WRITTEN into a buffer, which has room for them: they are t, and the rest stays
pub record Wrote (t before after : Text) (n : ℕ) : Type 0 where
  pub size : n ≡ length t
  pub room : n ≤ length before
  pub written : take n after ≡ t
  pub rest : drop n after ≡ drop n before

-- A TEXT AT A PLACE of the lent message: it starts and ends where the text there does, has its bytes, at least one, and is that very
-- part of the message's memory
pub record Stands (m : Bor Text) (p : Place) (a e : ℕ) (part : Bor Text) : Type 0 where
  pub start : a ≡ (stands_at m.now p).start
  pub end : e ≡ a + length (text_at m.now p)
  pub bytes : part.now ≡ text_at m.now p
  pub not-empty : empty part.now ≡ false
  pub very_part : VeryPart part m a e

-- A VALUE OF A TAG of the lent book: a slip stands in the slot, the tag's value starts and ends there, and it is that very part of the
-- book's memory
pub record Holds (book : Bor Text) (k tag a e : ℕ) (part : Bor Text) : Type 0 where
  pub slip : is_slip (slot book.now k) ≡ true
  pub lies : value_from expected tag (slot_start k) (slot book.now k) ≡ some (record { start = a; end = e })
  pub very_part : VeryPart part book a e

-- DEMAND 2
pub record Demand2 : Type 0 where
  -- ACCEPTED EXACTLY WHEN the frame is good and no check is broken
  pub accepted : (m : Text) → Judges profile01 m (Ok None) → (framed m ≡ true) × (none_broken (checks profile01 m) ≡ true)
  pub faultless :
      (m : Text) (r : Result (Option code.Fault) Refusal)
      → Judges profile01 m r → framed m ≡ true → none_broken (checks profile01 m) ≡ true → r ≡ Ok None
  -- OTHERWISE a fault is told
  pub otherwise :
      (m : Text) (r : Result (Option code.Fault) Refusal) → Judges profile01 m r → framed m ≡ true → none_broken (checks profile01 m) ≡ false
      → (f : code.Fault) × (r ≡ Ok (Some f))
  -- A FAULT is the first broken check: that one is broken, and none before it is
  pub fault :
      (m : Text) (f : code.Fault) → Judges profile01 m (Ok (Some f))
      → (framed m ≡ true) × FirstBroken (checks profile01 m) (place_of f.place) f.reason
  -- ITS REASON is 1 to 13, and each of these has 01's condition code
  pub reason : (m : Text) (f : code.Fault) → Judges profile01 m (Ok (Some f)) → (1 ≤ f.reason) × (f.reason ≤ 13)
  pub conditions :
      map condition (1 ∷ 2 ∷ 3 ∷ 4 ∷ 5 ∷ 6 ∷ 7 ∷ 8 ∷ 9 ∷ 10 ∷ 11 ∷ 12 ∷ 13 ∷ [])
      ≡ 100 ∷ 100 ∷ 101 ∷ 102 ∷ 102 ∷ 102 ∷ 102 ∷ 103 ∷ 200 ∷ 201 ∷ 202 ∷ 203 ∷ 102 ∷ []
  -- A TEXT that is looked up is what stands at that place of the caller's message; where Empty is answered, nothing stands there
  pub text :
      (m : Bor Text) (p : code-place.Place) (r : LookedUp) (s : Span) → LooksUp m p r → r.sort ≡ Ok (found.Text s)
      → Stands m (place_of p) s.start s.end r.text
  pub nothing :
      (m : Bor Text) (p : code-place.Place) (r : LookedUp) → LooksUp m p r → r.sort ≡ Ok found.Empty → text_at m.now (place_of p) ≡ []
  -- THE BYTES of a resolved text and of a reply, which has at most 3,200 of them
  pub resolves : (t before after : Text) (n : ℕ) → Resolves t before (Ok n) after → Wrote (resolved usual t) before after n
  pub replies :
      (m stamp number before after : Text) (n : ℕ) → Replies profile01 m stamp number before (Ok n) after
      → Wrote (reply_text profile01 m stamp number) before after n × (n ≤ longest_reply)
  -- THE BYTES of a slip
  pub files :
      (m : Text) (g k : ℕ) (before after : Text) → Files profile01 m g k before (Ok tt) after → slot after k ≡ slip_text m g
  -- A VALUE that is read, of whatever book
  pub value :
      (book : Bor Text) (k tag : ℕ) (r : SlipValue) (s : Span) → ReadsSlip book k tag r → r.sort ≡ Ok s
      → Holds book k tag s.start s.end r.value
  -- READ BACK from the book that a filing has left: each tag of its slot gives the value filed, and every other slot what it gave before
  pub reads_back :
      (m : Text) (g k : ℕ) (before : Text) (book : Bor Text) → Files profile01 m g k before (Ok tt) book.now
      → (tag : ℕ) (r : SlipValue) → ReadsSlip book k tag r → handed_back r ≡ value_of_tag tag (slip_values m g)
  pub others :
      (m : Text) (g k : ℕ) (old book : Bor Text) → Files profile01 m g k old.now (Ok tt) book.now
      → (j tag : ℕ) → (j ≡ k → ⊥) → (r s : SlipValue) → ReadsSlip old j tag r → ReadsSlip book j tag s
      → (value_of s.sort ≡ value_of r.sort) × (handed_back s ≡ handed_back r)
  -- the five builds that would do nothing with a message
  pub not_idle : ShutOut
