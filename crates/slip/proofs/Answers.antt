-- The answers of filing: the first refusal that applies, or the slip in its slot.
use mathlib.Core.Path.{◌≡◌, refl, sym, ap, ◌∙◌}
use Prim.Native.Nat.{ℕ}
use native.Mathlib.Omega.{arith}
use mathlib.Core.Bool.{true, false, not}
use mathlib.Core.List.{List, ◌∷◌}
use lib.ListN.{length}
use lib.Dec.{eqb, ltb}
use borrow.Author.Tests.{eq-eqb, ne_eqb}
use Rattle.text.specs.Bytes.{Text, bytes}
use Rattle.text.specs.Answer.{Answer, refused, given, Test, test, first, tell}
use Rattle.text.specs.Puts.{Puts}
use Rattle.text.specs.declared.refusal.Refusal.{Refusal}
use Rattle.text.specs.declared.refusal.Refusal.TheVariants.{NotAccepted, NoGroup, NoSlot}
use Rattle.text.proofs.Lists.{or_right}
use Rattle.text.proofs.Answer.{first-refused, first-passed, first-asked, given-passes, tell-first}
use Rattle.std.proofs.Common.{Option, None, Some, Result, Ok, Err}
use Rattle.std.specs.Option.{ok_or}
use Rattle.text.specs.declared.span.Span.{Span}
use Rattle.frame.specs.Frame.{frame_tests, framed}
use Rattle.frame.specs.Segments.{segments, of_name}
use Rattle.reader.specs.Copied.{standing}
use Rattle.reader.proofs.Seek.{standing-missing, standing_enough}
use Rattle.profile.specs.Profile.{profile01}
use Rattle.reader.specs.declared.Fault as code-fault
use Rattle.reader.specs.Fault.{Verdict, verdict, accepted, judge}
use Rattle.reader.specs.Told.{verdict_told, verdict_of}
use Rattle.slot.specs.Slot.{slot_size, slot_start, no_slot}
use Rattle.slip.specs.Slip.{slip_text}
use Rattle.slip.specs.Book.{own_tests, is_accepted, no_group, file, book_after}
use Rattle.slip.specs.Told.{done, filed_of}
use Rattle.slip.specs.Inner.{IsOrder, own_filing, FilesOwn}
use Rattle.slip.specs.Promise.{Files}

-- the group's tests
module _ (m : Text) (g : ℕ) where
  abbrev orders : ℕ
  orders = length (of_name (bytes "OBR") (segments m))

  group_zero : g ≡ 0 → no_group m g ≡ true
  group_zero e = rw (eq-eqb g 0 e)

  group_missing : None ≡ standing m (bytes "OBR") g → no_group m g ≡ true
  group_missing e = or_right (eqb g 0) (ltb orders g) (standing-missing m (bytes "OBR") g e)

  group_there : (s : Span) → IsOrder m g s → no_group m g ≡ false
  group_there s o = rw (ne_eqb g 0 (λ z. omega (arith, o.0)), standing_enough m (bytes "OBR") g s o.1)

-- filing a group of an accepted message
module _ (m : Text) (g k : ℕ) (before : Text) where
  own : (r : Result Unit Refusal) (after : Text) (a : Answer Text) → own_filing m g k before ≡ a → filed_of r ≡ done a → after ≡ book_after a k before
      → FilesOwn m g k before r after
  own r after a e p s =
      record { answer = p ∙ ap done (sym e); book = s ∙ ap (λ (x : Answer Text). book_after x k before) (sym e) }

  own_group : no_group m g ≡ true → FilesOwn m g k before (Err NoGroup) before
  unfolding first
  own_group e = own (Err NoGroup) before (refused NoGroup) (rw e) refl refl

  pub own-zero : g ≡ 0 → FilesOwn m g k before (Err NoGroup) before
  own-zero e = own_group (group_zero m g e)

  pub own-missing : (o : Option Span) (r : Refusal) → o ≡ standing m (bytes "OBR") g → ◌≡◌ {A = Result Span Refusal} (Err r) (ok_or o NoGroup)
      → FilesOwn m g k before (Err r) before
  own-missing None r e h =
      let z : r ≡ NoGroup = cc in
      rw z (own_group (group_missing m g e))
  own-missing (Some s) r e h = absurd (cc)

  module _ (s : Span) (o : IsOrder m g s) where
    pub own-slot : no_slot before k ≡ true → FilesOwn m g k before (Err NoSlot) before
    unfolding first
    own-slot n = own (Err NoSlot) before (refused NoSlot) (rw (group_there m g s o, n)) refl refl

    pub own-slip : no_slot before k ≡ false → (slip after : Text) (at r : ℕ) → length slip ≡ slot_size → slip ≡ slip_text m g
        → at ≡ slot_start k → Puts before at slip after r → FilesOwn m g k before (Ok tt) after
    unfolding first
    own-slip there slip after at r n t z p =
        own (Ok tt) after (given (slip_text m g)) (rw (group_there m g s o, there)) refl
        (p.holds ∙ rw (n, z, t))

-- what judging answered decides
module _ (m : Text) (g k : ℕ) (before : Text) (v : Result (Option code-fault.Fault) Refusal) (told : verdict_of v ≡ judge profile01 m) where
  abbrev rest : List Test
  rest = test NotAccepted (not (is_accepted (verdict profile01 m))) ∷ own_tests m g k before

  files : (r : Result Unit Refusal) (after : Text) (a : Answer Text) → file profile01 m g k before ≡ a → filed_of r ≡ done a → after ≡ book_after a k before
      → Files profile01 m g k before r after
  files r after a e p s =
      record { answer = p ∙ ap done (sym e); book = s ∙ ap (λ (x : Answer Text). book_after x k before) (sym e) }

  judged : (x : Answer Verdict) → verdict_of v ≡ x → x ≡ first (frame_tests m) (verdict profile01 m)
  unfolding judge
  judged x e = sym e ∙ told

  pub files-frame : (r : Refusal) → v ≡ Err r → Files profile01 m g k before (Err r) before
  unfolding file
  files-frame r e =
      let h : refused r ≡ first (frame_tests m) (tt {0}) =
      ap (tell (λ (x : Verdict). tt {0})) (judged (refused r) (ap verdict_of e)) ∙ tell-first (λ (x : Verdict). tt {0}) (frame_tests m) (verdict profile01 m) in
      files (Err r) before (refused r) (sym (first-refused (frame_tests m) rest (slip_text m g) r h)) refl refl

  -- a message with a good frame
  good : (x : Verdict) → verdict_of v ≡ given x → (framed m ≡ true) × (verdict profile01 m ≡ x)
  good x e =
      let j = judged (given x) e in
      (given-passes (frame_tests m) (verdict profile01 m) x (sym j), sym (first-asked (frame_tests m) (verdict profile01 m) x j))

  through : (x : Verdict) → verdict_of v ≡ given x → file profile01 m g k before ≡ first rest (slip_text m g)
  unfolding file
  through x e = first-passed (frame_tests m) rest (slip_text m g) (good x e).0

  pub files-fault : (f : code-fault.Fault) → v ≡ Ok (Some f) → Files profile01 m g k before (Err NotAccepted) before
  unfolding first
  files-fault f e =
      let x = verdict_told (Some f) in
      let h : verdict_of v ≡ given x = ap verdict_of e in
      files (Err NotAccepted) before (refused NotAccepted) (through x h ∙ rw (good x h).1) refl refl

  module _ (e : v ≡ Ok None) where
    pub files-accepted : (framed m ≡ true) × (verdict profile01 m ≡ accepted)
    files-accepted = good accepted (ap verdict_of e)

    pub files-own : (r : Result Unit Refusal) (after : Text) → FilesOwn m g k before r after → Files profile01 m g k before r after
    unfolding first
    files-own r after w =
        files r after (own_filing m g k before) (through accepted (ap verdict_of e) ∙ rw files-accepted.1) w.answer w.book
