-- What a filing tells of its message and its book: no refusal applies, and the message has what the slip needs.
use mathlib.Core.Path.{◌≡◌, refl, sym}
use Prim.Native.Nat.{ℕ, ◌≤◌}
use native.Mathlib.Omega.{arith}
use mathlib.Core.Bool.{true, false, not}
use mathlib.Core.List.{[], ◌∷◌}
use lib.ListN.{length}
use lib.Dec.{eqb, ltb}
use borrow.Author.Tests.{eqb-false, not-false}
use Rattle.text.specs.Bytes.{Text, bytes}
use Rattle.text.specs.Answer.{given, test, passes}
use Rattle.text.specs.declared.refusal.Refusal.TheVariants.{NotAccepted, NoGroup, NoSlot}
use Rattle.text.proofs.Tests.{not-true}
use Rattle.text.proofs.Lists.{or-none}
use Rattle.text.proofs.Answer.{passes-rest, passes-both, given-passes, first-asked}
use Rattle.frame.specs.Frame.{frame_tests, framed}
use Rattle.frame.specs.Segments.{segments, of_name, fewer}
use Rattle.profile.specs.Profile.{profile01}
use Rattle.reader.specs.Fault.{Verdict, accepted, fault, verdict}
use Rattle.slip.specs.Slip.{slip_text}
use Rattle.slot.specs.Slot.{no_slot}
use Rattle.slip.specs.Book.{is_accepted, no_group, file_tests, file}
use Rattle.slip.proofs.Fitting.{Fitting}
use Rattle.slip.proofs.Accepted.{accepted-fitting}

accepted-true : (v : Verdict) → is_accepted v ≡ true → v ≡ accepted
accepted-true accepted e = refl
accepted-true (fault p n) e = not-true e

module _ (m : Text) (g k : ℕ) (book slip : Text) (e : file profile01 m g k book ≡ given slip) where
  -- no refusal applies: those of the frame, and those after them
  tests : (framed m ≡ true)
      × (passes (test NotAccepted (not (is_accepted (verdict profile01 m))) ∷ test NoGroup (no_group m g) ∷ test NoSlot (no_slot book k) ∷ []) ≡ true)
  unfolding file
  tests = passes-both (frame_tests m) _ (given-passes (file_tests profile01 m g k book) (slip_text m g) slip e)

  own-tests : (is_accepted (verdict profile01 m) ≡ true) × ((no_group m g ≡ false) × (no_slot book k ≡ false))
  unfolding passes
  own-tests =
      let a = passes-rest (not (is_accepted (verdict profile01 m))) _ tests.1 in
      let b = passes-rest (no_group m g) _ a.1 in
      let c = passes-rest (no_slot book k) _ b.1 in
      (not-false (is_accepted (verdict profile01 m)) a.0, (b.0, c.0))

  pub filed-framed : framed m ≡ true
  filed-framed = tests.0

  pub filed-accepted : verdict profile01 m ≡ accepted
  filed-accepted = accepted-true (verdict profile01 m) own-tests.0

  pub filed_group : (1 ≤ g) × (fewer m (bytes "OBR") g ≡ false)
  filed_group =
      let h = or-none (eqb g 0) (ltb (length (of_name (bytes "OBR") (segments m))) g) own-tests.1.0 in
      (omega (arith, eqb-false g 0 h.0), h.1)

  pub filed-room : no_slot book k ≡ false
  filed-room = own-tests.1.1

  pub filed-text : slip ≡ slip_text m g
  unfolding file
  filed-text = first-asked (file_tests profile01 m g k book) (slip_text m g) slip (sym e)

  pub filed-fitting : Fitting m g
  filed-fitting = accepted-fitting m g filed-framed filed-accepted filed_group.0 filed_group.1
