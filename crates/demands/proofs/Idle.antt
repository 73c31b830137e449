-- THE FIVE IDLE BUILDS are shut out: each is at odds with what the entries promise.
use mathlib.Core.Path.{◌≡◌, refl, sym, ap, ◌∙◌}
use Prim.Native.Nat.{ℕ, ◌≤◌}
use native.Mathlib.Omega.{arith}
use mathlib.Core.Bool.{false}
use denote.Ref.{Bor}
use Rattle.std.proofs.Common.{None, Result, Ok}
use Rattle.text.specs.Bytes.{Text, bytes}
use Rattle.text.specs.declared.refusal.Refusal.{Refusal}
use Rattle.text.specs.Answer.{given, first}
use Rattle.text.proofs.Tests.{same_true}
use Rattle.profile.specs.Profile.{profile01}
use Rattle.reader.specs.Place.{Place, place}
use Rattle.reader.specs.Fault.{accepted, fault, judge}
use Rattle.reader.specs.Told.{verdict_of}
use Rattle.reader.proofs.Unique.{verdict-same}
use Rattle.slip.specs.Slot.{two_bytes, no_slot}
use Rattle.reader.specs.Observations.{observations_of}
use Rattle.slip.specs.Slip.{resolved_at, slip_text, slip_values}
use Rattle.slip.specs.Book.{no_group, book_after}
use Rattle.slip.specs.Inner.{own_filing, FilesOwn}
use Rattle.slip.specs.Promise.{Files}
use Rattle.slip.proofs.Answers.{files-own}
use Rattle.slip.proofs.Passed.{filed-fitting}
use Rattle.slip.proofs.Unique.{file_unique}
use Rattle.book.specs.declared.reading.SlipValue.{SlipValue}
use Rattle.book.specs.Read.{slot}
use Rattle.book.specs.RoundTrip.{value_of_tag, handed_back}
use Rattle.book.specs.Promise.{ReadsSlip}
use Rattle.book.proofs.RoundTrip.{round_trip, filler_back}
use Rattle.book.proofs.ReadBack.{slip-given, filed-there, filed-read}
use Rattle.worked.specs.Messages.{two_orders}
use Rattle.worked.specs.Worked.{P1, P2, P3}
use Rattle.worked.proofs.Computing.{computing}
use Rattle.demands.specs.Idle.{second_slip, ShutOut}
use Rattle.demands.proofs.Counts.{counts_all}

-- what the definitions give for the three messages
p1_accepted : judge profile01 P1 ≡ given accepted
unfolding computing
p1_accepted = refl

p2_fault : judge profile01 P2 ≡ given (fault (place (bytes "OBX") 1 5 1 1 1) 7)
unfolding computing
p2_fault = refl

not-accepted : (p : Place) (n : ℕ) → given (fault p n) ≡ given accepted → ⊥
not-accepted p n e = let z : ◌≡◌ {A = ℕ} 0 1 = cc in omega arith

p2_faulty : judge profile01 P2 ≡ given accepted → ⊥
p2_faulty e = not-accepted (place (bytes "OBX") 1 5 1 1 1) 7 (sym p2_fault ∙ e)

two_orders-accepted : judge profile01 two_orders ≡ given accepted
unfolding computing
two_orders-accepted = refl

p1_group : no_group P1 1 ≡ false
unfolding computing
p1_group = refl

two_orders_group : no_group two_orders 2 ≡ false
unfolding computing
two_orders_group = refl

p1_slip : slip_text P1 1 ≡ P3
unfolding computing
p1_slip = same_true (slip_text P1 1) P3 refl

two_orders-slip : slip_text two_orders 2 ≡ second_slip
unfolding computing
two_orders-slip = same_true (slip_text two_orders 2) second_slip refl

-- A GROUP OF AN ACCEPTED MESSAGE is filed in every slot that a book has, and its slip then stands there
module _ (m : Text) (g : ℕ) (judged : judge profile01 m ≡ given accepted) (group : no_group m g ≡ false) where
  own-filed : (k : ℕ) (before : Text) → no_slot before k ≡ false → FilesOwn m g k before (Ok tt) (book_after (own_filing m g k before) k before)
  unfolding first
  own-filed k before room = record { answer = rw (group, room); book = refl }

  files-slip : (k : ℕ) (before after : Text) (r : Result Unit Refusal) → no_slot before k ≡ false → Files profile01 m g k before r after
      → (r ≡ Ok tt) × (slot after k ≡ slip_text m g)
  files-slip k before after r room f =
      let filed = files-own m g k before (Ok None) (sym judged) refl (Ok tt) _ (own-filed k before room) in
      let e = (file_unique profile01 m g k before r (Ok tt) after _ f filed).0 in
      (e, filed-there m g k before after (rw e at f))

-- WHAT A FILED SLIP hands back: the number of its own OBR, and the count of its own OBX
module _ (m : Text) (g k : ℕ) (before : Text) (book : Bor Text) (f : Files profile01 m g k before (Ok tt) book.now) where
  number-value : value_of_tag 4 (slip_values m g) ≡ given (resolved_at m (bytes "OBR") g 3)
  number-value =
      let s = slip-given m g k before book.now f in
      sym ((round_trip m g k before s.0 s.1).own 4) ∙ filler_back m g k before s.0 s.1

  number_back : (r : SlipValue) → ReadsSlip book k 4 r → handed_back r ≡ given (resolved_at m (bytes "OBR") g 3)
  number_back r h = filed-read m g k before book.now f book refl 4 r h ∙ number-value

  count_back : (r : SlipValue) → ReadsSlip book k 6 r → (handed_back r ≡ given (two_bytes (observations_of m g))) × (observations_of m g ≤ 509)
  unfolding value_of_tag
  count_back r h =
      let s = slip-given m g k before book.now f in
      (filed-read m g k before book.now f book refl 6 r h, (filed-fitting m g k before s.0 s.1).count)

-- SHUT OUT
pub shut_out : ShutOut
shut_out =
    record {
      refuses_all = λ r h. verdict-same r (Ok None) (h ∙ p1_accepted);
      says_the_same = λ r s h k e. p2_faulty (sym k ∙ ap verdict_of (sym e) ∙ h ∙ p1_accepted);
      files-nothing =
          λ k before after r room f.
          let h = files-slip P1 1 p1_accepted p1_group k before after r room f in
          (h.0, h.1 ∙ p1_slip);
      files_group_one = number_back;
      group_two =
          λ k before after r room f.
          let h = files-slip two_orders 2 two_orders-accepted two_orders_group k before after r room f in
          (h.0, h.1 ∙ two_orders-slip);
      invents_a_count = count_back;
      counts_all = counts_all;
    }
