-- What `file` leaves, and THE ROUND TRIP of the entries: what `read_slip` hands back of it.
use mathlib.Core.Path.{◌≡◌, refl, sym, ap, ◌∙◌}
use mathlib.Core.Logic.{◌⊎◌}
use Prim.Native.Nat.{ℕ, ◌+◌, ◌≤◌, ◌<◌}
use native.Mathlib.Omega.{arith}
use lib.ListN.{length, get_or}
use denote.Ref.{Bor}
use Rattle.text.specs.Bytes.{Text, within}
use Rattle.text.specs.Answer.{Answer, refused, given, tell}
use Rattle.profile.specs.Profile.{profile01}
use Rattle.std.proofs.Common.{Result, Ok, Err}
use Rattle.text.specs.declared.refusal.Refusal.{Refusal}
use Rattle.text.specs.declared.span.Span.{Span}
use Rattle.book.specs.declared.reading.SlipValue.{SlipValue}
use Rattle.slip.specs.Slot.{slot_size, slot_start}
use Rattle.slip.specs.Slip.{slip_values, slip_text}
use Rattle.slip.specs.Book.{file}
use Rattle.slip.specs.Told.{done}
use Rattle.slip.specs.Promise.{Files}
use Rattle.slip.proofs.SlotRoom.{slot-room}
use Rattle.slip.proofs.Passed.{filed-room, filed-fitting}
use Rattle.book.specs.Read.{Part, slot, read_slip}
use Rattle.book.specs.Told.{value_of, start_of, end_of}
use Rattle.book.specs.Promise.{ReadsSlip}
use Rattle.book.specs.RoundTrip.{RoundTrip, read_bytes, value_of_tag, handed_back}
use Rattle.book.proofs.Slots.{filed, filed-length, filed-slot, filed-elsewhere}
use Rattle.book.proofs.RoundTrip.{text-length, book-after, round_trip}

-- the bytes handed back are those of the part that the answer names
handed-step : (v : Result Span Refusal) (t book : Text) → t ≡ within (start_of v) (end_of v) book
    → tell (λ (p : Part). t) (value_of v) ≡ tell (λ (p : Part). within p.start p.end book) (value_of v)
handed-step (Err r) t book e = refl
handed-step (Ok s) t book e = ap given e

handed : (book : Bor Text) (k tag : ℕ) (r : SlipValue) → ReadsSlip book k tag r → handed_back r ≡ read_bytes book.now k tag
handed book k tag r h =
    handed-step r.sort r.value.now book.now h.value.bytes
    ∙ ap (λ (a : Answer Part). tell (λ (p : Part). within p.start p.end book.now) a) h.sort

-- a slip was filed only where the definition gives one
given-step : (a : Answer Text) → given tt ≡ done a → (slip : Text) × (a ≡ given slip)
given-step (refused r) e = absurd (let z : ◌≡◌ {A = ℕ} 0 1 = cc in omega arith)
given-step (given slip) e = (slip, refl)

module _ (m : Text) (g k : ℕ) (before after : Text) (was-filed : Files profile01 m g k before (Ok tt) after) where
  pub slip-given : (slip : Text) × (file profile01 m g k before ≡ given slip)
  slip-given = given-step (file profile01 m g k before) was-filed.answer

  abbrev slip : Text
  slip = slip-given.0

  e : file profile01 m g k before ≡ given slip
  e = slip-given.1

  width : length (slip_text m g) ≡ slot_size
  width = text-length m g (filed-fitting m g k before slip e)

  room : slot_start k + slot_size ≤ length before
  room = slot-room before k (filed-room m g k before slip e)

  left : after ≡ filed before (slip_text m g) k
  left = was-filed.book ∙ book-after m g k before slip e

  -- ITS OWN SLOT is the slip, and NO OTHER BYTE is changed
  pub filed-there : slot after k ≡ slip_text m g
  filed-there = ap (λ (b : Text). slot b k) left ∙ filed-slot before (slip_text m g) k width room

  pub filed-untouched : (i : ℕ) → (i < slot_start k) ⊎ (slot_start k + slot_size ≤ i) → get_or after i 0 ≡ get_or before i 0
  filed-untouched i h = ap (λ (b : Text). get_or b i 0) left ∙ filed-elsewhere before (slip_text m g) k i width room h

  pub filed-size : length after ≡ length before
  filed-size = ap length left ∙ filed-length before (slip_text m g) k width room

  trip : RoundTrip profile01 m g k before
  trip = round_trip m g k before slip e

module _ (m : Text) (g k : ℕ) (before after : Text) (was-filed : Files profile01 m g k before (Ok tt) after) (book : Bor Text) (left : book.now ≡ after) where
  -- EACH TAG of the slot gives the value that was filed
  pub filed-read : (tag : ℕ) (r : SlipValue) → ReadsSlip book k tag r → handed_back r ≡ value_of_tag tag (slip_values m g)
  filed-read tag r h =
      handed book k tag r h
      ∙ (ap (λ (b : Text). read_bytes b k tag) (left ∙ was-filed.book)
      ∙ (trip m g k before after was-filed).own tag)

  -- EVERY OTHER SLOT reads as before: the same answer, and the same bytes
  pub filed-others : (old : Bor Text) → old.now ≡ before → (j tag : ℕ) → (j ≡ k → ⊥)
      → (r s : SlipValue) → ReadsSlip old j tag r → ReadsSlip book j tag s
      → (value_of s.sort ≡ value_of r.sort) × (handed_back s ≡ handed_back r)
  filed-others old was j tag n r s h i =
      let t = trip m g k before after was-filed in (
        i.sort
            ∙ (ap (λ (b : Text). read_slip b j tag) (left ∙ was-filed.book)
            ∙ (t.others j tag n
            ∙ (ap (λ (b : Text). read_slip b j tag) (sym was) ∙ sym h.sort))),
        handed book j tag s i
            ∙ (ap (λ (b : Text). read_bytes b j tag) (left ∙ was-filed.book)
            ∙ (t.values j tag n
            ∙ (ap (λ (b : Text). read_bytes b j tag) (sym was) ∙ sym (handed old j tag r h)))),
      )
