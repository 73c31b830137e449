-- THE ROUND TRIP: what was filed is read again, and the other slots read as before.
use mathlib.Core.Path.{◌≡◌, ap, ◌∙◌}
use Prim.Native.Nat.{ℕ, ◌+◌, ◌/◌, ◌≤◌}
use native.Mathlib.Omega.{arith}
use mathlib.Core.Bool.{Bool, true, false, not}
use mathlib.Core.List.{List, [], ◌∷◌}
use mathlib.Core.Option.{Option, none, some}
use lib.ListN.{length, drop}
use lib.Dec.{leb}
use Rattle.text.specs.Bytes.{Text, bytes, within}
use Rattle.text.specs.Answer.{Answer, refused, given, test, first, tell}
use Rattle.escape.specs.Escape.{resolved}
use Rattle.text.specs.Marks.{marks_of}
use Rattle.text.specs.declared.marks.Marks.{Marks}
use Rattle.text.specs.declared.refusal.Refusal.TheVariants.{NoSlot, BadSlip, NoTag}
use Rattle.text.proofs.Tests.{empty-some}
use Rattle.escape.proofs.Escapes.{resolved-none, written-length}
use Rattle.profile.specs.Profile.{profile01}
use Rattle.reader.specs.Place.{place, text_at}
use Rattle.reader.specs.Observations.{observations_of}
use Rattle.slip.specs.Slot.{slot_size, slot_start, Tagged, two_bytes, no_slot}
use Rattle.tags.specs.Fields.{longest_control, longest_text}
use Rattle.slip.specs.Slip.{resolved_at, slip_values, slip_text}
use Rattle.slip.specs.Book.{file, book_after}
use Rattle.slip.proofs.Fitting.{Taken, Filled, Fitting}
use Rattle.slip.proofs.SlotRoom.{slot-room}
use Rattle.slip.proofs.Passed.{filed-room, filed-text, filed-fitting}
use Rattle.book.specs.Read.{expected, is_slip, Part, value_from, is_none, or_nothing, slot, read_slip}
use Rattle.book.specs.RoundTrip.{read_bytes, value_of_tag, afterwards, RoundTrip}
use Rattle.book.proofs.Resolved.{PlainMarks, usual-plain, resolved-plain}
use Rattle.book.proofs.Fields.{Brief, Held, Reads, told, held_full}
use Rattle.book.proofs.Whole.{slip-length, slip-reads}
use Rattle.book.proofs.Slots.{filed, filed-length, filed-from, filed-slot, filed-other, filed-reads, filed-bytes}

-- the values are those that a slip may hold
marks-plain : (m : Text) → PlainMarks (marks_of m)
unfolding marks_of
marks-plain m = usual-plain

module _ (q : Marks) (p : PlainMarks q) (most : ℕ) (t : Text) where
  taken-brief : Taken q most t → Brief most (resolved q t)
  taken-brief h = record { short = h.fits.short; plain = resolved-plain q p t h.plain }

  filled_held : Filled q most t → Held most (resolved q t)
  filled_held h = record { brief = taken-brief h.taken; some = omega (arith, written-length q t, h.some) }

module _ (m : Text) (g : ℕ) (f : Fitting m g) where
  control_held : Held longest_control (resolved_at m (bytes "MSH") 1 10)
  control_held = filled_held (marks_of m) (marks-plain m) longest_control (text_at m (place (bytes "MSH") 1 10 1 1 1)) f.control

  patient_held : Held longest_text (resolved_at m (bytes "PID") 1 3)
  patient_held = filled_held (marks_of m) (marks-plain m) longest_text (text_at m (place (bytes "PID") 1 3 1 1 1)) f.patient

  placer-brief : Brief longest_text (resolved_at m (bytes "OBR") g 2)
  placer-brief = taken-brief (marks_of m) (marks-plain m) longest_text (text_at m (place (bytes "OBR") g 2 1 1 1)) f.placer

  filler_held : Held longest_text (resolved_at m (bytes "OBR") g 3)
  filler_held = filled_held (marks_of m) (marks-plain m) longest_text (text_at m (place (bytes "OBR") g 3 1 1 1)) f.filler

  service_held : Held longest_text (resolved_at m (bytes "OBR") g 4)
  service_held = filled_held (marks_of m) (marks-plain m) longest_text (text_at m (place (bytes "OBR") g 4 1 1 1)) f.service

  pub text-length : length (slip_text m g) ≡ slot_size
  unfolding slip_text
  text-length =
      slip-length (resolved_at m (bytes "MSH") 1 10) (resolved_at m (bytes "PID") 1 3) (resolved_at m (bytes "OBR") g 2) (resolved_at m (bytes "OBR") g 3)
      (resolved_at m (bytes "OBR") g 4) (observations_of m g) control_held patient_held placer-brief filler_held service_held f.count

  pub text-reads : Reads expected (slip_values m g) (slip_text m g)
  unfolding slip_text
  text-reads =
      slip-reads (resolved_at m (bytes "MSH") 1 10) (resolved_at m (bytes "PID") 1 3) (resolved_at m (bytes "OBR") g 2) (resolved_at m (bytes "OBR") g 3)
      (resolved_at m (bytes "OBR") g 4) (observations_of m g) control_held patient_held placer-brief filler_held service_held f.count

-- the answer of a reading, by its bytes: the slot is there and holds a slip
told-answer : (book : Text) (a b : Bool) (o : Option Part) → a ≡ false → b ≡ true
    → tell (λ (p : Part). within p.start p.end book) (first (test NoSlot a ∷ test BadSlip (not b) ∷ test NoTag (is_none o) ∷ []) (or_nothing o))
    ≡ told book o
unfolding first
told-answer book a b none e h = rw (e, h)
told-answer book a b (some p) e h = rw (e, h)

-- the slot that was filed reads as the values of its slip
pub filed-own : (book slip : Text) (fs : List Tagged) (k tag : ℕ) → length slip ≡ slot_size → no_slot book k ≡ false → Reads expected fs slip
    → read_bytes (filed book slip k) k tag ≡ value_of_tag tag fs
unfolding read_slip
filed-own book slip fs k tag w n r =
    let room = slot-room book k n in
    let same = filed-slot book slip k w room in
    told-answer (filed book slip k) (no_slot (filed book slip k) k) (is_slip (slot (filed book slip k) k))
    (value_from expected tag (slot_start k) (slot (filed book slip k) k))
    (ap (λ (l : ℕ). leb (l / slot_size) k) (filed-length book slip k w room) ∙ n)
    (ap is_slip same ∙ r.whole)
    ∙ (ap (λ (s : Text). told (filed book slip k) (value_from expected tag (slot_start k) s)) same
    ∙ r.values tag (slot_start k) (filed book slip k) (drop (slot_start k + slot_size) book) (filed-from book slip k w room))

-- what a tag of the filed slot gives
abbrev pub read_back : Text → ℕ → ℕ → Text → ℕ → Answer Text
read_back m g k book tag = read_bytes (afterwards profile01 m g k book) k tag

module _ (m : Text) (g k : ℕ) (book slip : Text) (e : file profile01 m g k book ≡ given slip) where
  -- the book afterwards
  pub book-after : afterwards profile01 m g k book ≡ filed book (slip_text m g) k
  book-after = ap (λ (a : Answer Text). book_after a k book) (e ∙ ap given (filed-text m g k book slip e))

  own_back : (tag : ℕ) → read_back m g k book tag ≡ value_of_tag tag (slip_values m g)
  own_back tag =
      ap (λ (b : Text). read_bytes b k tag) book-after
      ∙ filed-own book (slip_text m g) (slip_values m g) k tag (text-length m g (filed-fitting m g k book slip e)) (filed-room m g k book slip e) (text-reads m g (filed-fitting m g k book slip e))

  -- THE ROUND TRIP
  pub round_trip : RoundTrip profile01 m g k book
  round_trip =
      let width = text-length m g (filed-fitting m g k book slip e) in
      let room = slot-room book k (filed-room m g k book slip e) in
      record {
        own = own_back;
        others = λ j tag n. ap (λ (b : Text). read_slip b j tag) book-after ∙ filed-reads book (slip_text m g) k width room j tag n;
        values = λ j tag n. ap (λ (b : Text). read_bytes b j tag) book-after ∙ filed-bytes book (slip_text m g) k width room j tag n;
        bytes = λ j n. ap (λ (b : Text). slot b j) book-after ∙ filed-other book (slip_text m g) k width room j n;
      }

  -- and tag by tag: 3 is NO TAG where OBR-2.1 is Empty
  pub control_back : read_back m g k book 1 ≡ given (resolved_at m (bytes "MSH") 1 10)
  unfolding value_of_tag
  control_back = own_back 1 ∙ rw (held_full (control_held m g (filed-fitting m g k book slip e)))

  pub patient_back : read_back m g k book 2 ≡ given (resolved_at m (bytes "PID") 1 3)
  unfolding value_of_tag
  patient_back = own_back 2 ∙ rw (held_full (patient_held m g (filed-fitting m g k book slip e)))

  pub no_placer_back : text_at m (place (bytes "OBR") g 2 1 1 1) ≡ [] → read_back m g k book 3 ≡ refused NoTag
  unfolding value_of_tag
  no_placer_back z = own_back 3 ∙ rw (z, resolved-none (marks_of m))

  pub placer_back : 1 ≤ length (text_at m (place (bytes "OBR") g 2 1 1 1)) → read_back m g k book 3 ≡ given (resolved_at m (bytes "OBR") g 2)
  unfolding value_of_tag
  placer_back l =
      let some = written-length (marks_of m) (text_at m (place (bytes "OBR") g 2 1 1 1)) in
      own_back 3 ∙ rw (empty-some (resolved_at m (bytes "OBR") g 2) (λ e. omega arith))

  pub filler_back : read_back m g k book 4 ≡ given (resolved_at m (bytes "OBR") g 3)
  unfolding value_of_tag
  filler_back = own_back 4 ∙ rw (held_full (filler_held m g (filed-fitting m g k book slip e)))

  pub service_back : read_back m g k book 5 ≡ given (resolved_at m (bytes "OBR") g 4)
  unfolding value_of_tag
  service_back = own_back 5 ∙ rw (held_full (service_held m g (filed-fitting m g k book slip e)))

  pub count_back : read_back m g k book 6 ≡ given (two_bytes (observations_of m g))
  unfolding value_of_tag
  count_back = own_back 6
