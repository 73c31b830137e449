-- What the exported functions' promises come to: by the definitions that they share with the entries.
use mathlib.Core.Path.{◌≡◌, refl, sym, ap, ◌∙◌}
use Prim.Native.Nat.{ℕ, ◌≤◌}
use native.Mathlib.Omega.{arith}
use mathlib.Core.Bool.{true}
use mathlib.Core.List.{List, [], ◌∷◌, ◌++◌}
use lib.ListN.{length, get_or, replicate}
use Rattle.text.specs.Bytes.{Text}
use Rattle.text.specs.Answer.{Answer, refused, given, Test, number_of, tell, reported, buffer_after}
use Rattle.text.specs.Marks.{usual}
use Rattle.escape.specs.Escape.{resolve_tests, resolved, resolve}
use Rattle.text.specs.declared.refusal.Refusal.{Refusal}
use Rattle.text.specs.declared.refusal.Refusal.TheVariants.{Empty, TooLong, BadByte, NoHeader, NoEnd, BadSegment, SecondHeader, TooMany, BadPlace, NoSegment, BadStamp, BadReplyNumber, NoControlNumber, NoRoom, NotAccepted, NoGroup, NoSlot, BadSlip, NoTag, BadEscape}
use Rattle.text.proofs.Answer.{first-asked}
use Rattle.frame.specs.Frame.{frame_tests, framed}
use Rattle.profile.specs.Profile.{profile01}
use Rattle.reader.specs.Place.{Place}
use Rattle.reader.specs.LookUp.{Found, text_from_to, found, look_up_tests, look_up}
use Rattle.reader.specs.Fault.{Verdict, accepted, fault, verdict, judge}
use Rattle.reader.proofs.Reasons.{fault_reason01}
use Rattle.reply.specs.Reply.{reply_tests, reply_text, reply}
use Rattle.slip.specs.Slot.{slot_start}
use Rattle.slip.specs.Slip.{slip_text}
use Rattle.slip.specs.Book.{file_tests, file, book_after}
use Rattle.book.specs.Read.{slot, expected, value_from, or_nothing, read_tests, read_slip}
use Rattle.slip.specs.Told.{done}
use Rattle.demands.specs.Demand1.{InOrder, OnlySlot, frame_numbers}
use Rattle.demands.specs.Strike.{is_listed_place, strike}
use Rattle.demands.specs.Demand3.{shown_found, SameAfter, SameDefined}
use Rattle.demands.proofs.Demand1.{in_order, demand1}
use Rattle.demands.proofs.Demand3.{demand3}
use Rattle.cabi.specs.Told.{status, list_after, Tells, verdict_numbers, found_numbers, place_asked, size_numbers, part_numbers}
use Rattle.cabi.specs.Promise.{JudgeTells, LookUpTells, WriteTells, FileTells, ReadTells}
use Rattle.cabi.proofs.Unique.{judge_tells_unique, file_tells_unique}
use Rattle.exports.specs.Exports.{Call, Lent, Resolved, Replied, text_of, SameText, Exported}

-- 1. No refusal has the number 0
number_from_1 : (n : Refusal) → 1 ≤ number_of n
number_from_1 Empty = omega arith
number_from_1 TooLong = omega arith
number_from_1 BadByte = omega arith
number_from_1 NoHeader = omega arith
number_from_1 NoEnd = omega arith
number_from_1 BadSegment = omega arith
number_from_1 SecondHeader = omega arith
number_from_1 TooMany = omega arith
number_from_1 BadPlace = omega arith
number_from_1 NoSegment = omega arith
number_from_1 BadStamp = omega arith
number_from_1 BadReplyNumber = omega arith
number_from_1 NoControlNumber = omega arith
number_from_1 NoRoom = omega arith
number_from_1 NotAccepted = omega arith
number_from_1 NoGroup = omega arith
number_from_1 NoSlot = omega arith
number_from_1 BadSlip = omega arith
number_from_1 NoTag = omega arith
number_from_1 BadEscape = omega arith

-- so 0 is returned where the definition gives an answer, and any other number where it refuses
zero-given : {A : Type 0} (a : Answer A) → 0 ≡ status a → (x : A) × (a ≡ given x)
zero-given (refused n) e = absurd (omega (arith, number_from_1 n))
zero-given (given x) e = (x, refl)

other-refused : {A : Type 0} (a : Answer A) (r : ℕ) → r ≡ status a → (r ≡ 0 → ⊥) → (n : Refusal) × (a ≡ refused n)
other-refused (refused n) r e h = (n, refl)
other-refused (given x) r e h = absurd (h e)

-- 2. A CALL whose number is the definition's, and which leaves what the definition says; a refusal leaves what was there
module _ {A L : Type 0} (a : Answer A) (promised : ℕ → L → Type 0) (before : L) (left : Answer A → L) (stays : (n : Refusal) → left (refused n) ≡ before)
    (means : (r : ℕ) (after : L) → promised r after → (r ≡ status a) × (after ≡ left a)) (meets : promised (status a) (left a)) where
  call : (order : List ℕ) (ts : List Test) → InOrder order ts a → Call a promised before order ts
  call order ts o =
      record {
        there-is-one = (status a, (left a, meets));
        only_one =
            λ r s after after' p q.
            let m = means r after p in
            let n = means s after' q in
            (m.0 ∙ sym n.0, m.1 ∙ sym n.1);
        number = λ r after p. (means r after p).0;
        in_order = o;
        zero = λ after p. let g = zero-given a (means 0 after p).0 in o.otherwise g.0 g.1;
        untouched =
            λ r after p h.
            let m = means r after p in
            let n = other-refused a r m.0 h in
            m.1 ∙ ap left n.1 ∙ stays n.0;
      }

-- of numbers in `out` alone
told : {A : Type 0} (numbers : A → List ℕ) (a : Answer A) (out order : List ℕ) (ts : List Test) → InOrder order ts a
    → Call a (Tells numbers a out) out order ts
told numbers a out =
    call a (Tells numbers a out) out (λ a. list_after numbers a out) (λ n. refl)
    (λ r after p. (p.returned, p.list)) (record { returned = refl; list = refl })

-- of a text in a buffer, and its size in `out`
size-status : (a : Answer Text) → status (reported a) ≡ status a
size-status (refused n) = refl
size-status (given t) = refl

abbrev ToldWritten : Answer Text → Lent → ℕ → Lent → Type 0
ToldWritten a l r after = WriteTells a l.buffer l.out r after.buffer after.out

abbrev lent_after : Lent → Answer Text → Lent
lent_after l a = record { buffer = buffer_after a l.buffer; out = list_after size_numbers (reported a) l.out }

wrote : (a : Answer Text) (l : Lent) (order : List ℕ) (ts : List Test) → InOrder order ts a → Call a (ToldWritten a l) l order ts
wrote a l =
    call a (ToldWritten a l) l (lent_after l) (λ n. refl)
    (λ r after p. (p.told.returned ∙ size-status a, λ i. record { buffer = p.buffer i; out = p.told.list i }))
    (record { told = record { returned = sym (size-status a); list = refl }; buffer = refl })

-- 3. THE SIX CALLS
judges : (m : Text) (out : List ℕ) → Call (judge profile01 m) (JudgeTells profile01 m out) out frame_numbers (frame_tests m)
unfolding judge frame_tests
judges m out = told verdict_numbers (judge profile01 m) out _ _ (in_order _ _ refl (verdict profile01 m) (judge profile01 m) refl)

looks_up : (m name : Text) (place out : List ℕ)
    → Call (look_up m (place_asked name place)) (LookUpTells m name place out) out
    (frame_numbers ++ (9 ∷ 10 ∷ [])) (look_up_tests m (place_asked name place))
unfolding look_up frame_tests
looks_up m name place out =
    let p = place_asked name place in
    told found_numbers (look_up m p) out _ _ (in_order _ _ refl (found m p) (look_up m p) refl)

resolves : (t : Text) (l : Lent)
    → Call (resolve usual t (length l.buffer)) (Resolved t l) l (20 ∷ 14 ∷ []) (resolve_tests usual t (length l.buffer))
unfolding resolve
resolves t l =
    let a = resolve usual t (length l.buffer) in
    wrote a l _ _ (in_order _ _ refl (resolved usual t) a refl)

replies : (m stamp number : Text) (l : Lent)
    → Call (reply profile01 m stamp number (length l.buffer)) (Replied m stamp number l) l
    (frame_numbers ++ (11 ∷ 12 ∷ 13 ∷ 14 ∷ [])) (reply_tests profile01 m stamp number (length l.buffer))
unfolding reply frame_tests
replies m stamp number l =
    let a = reply profile01 m stamp number (length l.buffer) in
    wrote a l _ _ (in_order _ _ refl (reply_text profile01 m stamp number) a refl)

files : (m : Text) (group slot : ℕ) (book : Text)
    → Call (file profile01 m group slot book) (FileTells profile01 m group slot book) book
    (frame_numbers ++ (15 ∷ 16 ∷ 17 ∷ [])) (file_tests profile01 m group slot book)
unfolding file frame_tests
files m group slot book =
    let a = file profile01 m group slot book in
    call a (FileTells profile01 m group slot book) book (λ a. book_after a slot book) (λ n. refl)
    (λ r after p. (p.returned, p.book)) (record { returned = refl; book = refl })
    _ _ (in_order _ _ refl (slip_text m group) a refl)

reads-slip : (book : Text) (k tag : ℕ) (out : List ℕ)
    → Call (read_slip book k tag) (ReadTells book k tag out) out (17 ∷ 18 ∷ 19 ∷ []) (read_tests book k tag)
unfolding read_slip
reads-slip book k tag out =
    told part_numbers (read_slip book k tag) out _ _
    (in_order _ _ refl (or_nothing (value_from expected tag (slot_start k) (slot book k))) (read_slip book k tag) refl)

-- 4. Accepted, and the reason of a fault
module _ (m : Text) (out after : List ℕ) (h : JudgeTells profile01 m out 0 after) where
  ten_zeros : judge profile01 m ≡ given accepted → after ≡ replicate 10 0
  ten_zeros e = rw e at h.list

  reason : (p : Place) (n : ℕ) → judge profile01 m ≡ given (fault p n) → (get_or after 0 0 ≡ n) × ((1 ≤ n) × (n ≤ 13))
  unfolding judge
  reason p n e = (
    ap (λ (l : List ℕ). get_or l 0 0) (rw e at h.list),
    fault_reason01 m p n (sym (first-asked (frame_tests m) (verdict profile01 m) (fault p n) (sym e))),
  )

  accepted_by : (a : Answer Verdict) → judge profile01 m ≡ a → 0 ≡ status a → after ≡ replicate 10 0 → a ≡ given accepted
  accepted_by (refused n) e s z = absurd (omega (arith, number_from_1 n))
  accepted_by (given accepted) e s z = refl
  accepted_by (given (fault p n)) e s z =
      let w = reason p n e in
      absurd (omega (arith, w.0, w.1.0, ap (λ (l : List ℕ). get_or l 0 0) z))

  only-accepted : after ≡ replicate 10 0 → judge profile01 m ≡ given accepted
  only-accepted z = accepted_by (judge profile01 m) refl h.returned z

-- 5. A filed slip
filed-done : (a : Answer Text) → 0 ≡ status a → given tt ≡ done a
filed-done (refused n) e = absurd (omega (arith, number_from_1 n))
filed-done (given t) e = refl

own-slot : (m : Text) (group slot : ℕ) (book after : Text) → FileTells profile01 m group slot book 0 after → OnlySlot slot book after
own-slot m group slot book after h =
    demand1.own-slot m group slot book after (record { answer = filed-done (file profile01 m group slot book) h.returned; book = h.book })

-- 6. A look-up in the struck message
told-status : {A B : Type 0} (f : A → B) (a : Answer A) → status (tell f a) ≡ status a
told-status f (refused n) = refl
told-status f (given x) = refl

module _ (m m' : Text) (out after after' : List ℕ) where
  same_text : (a b : Answer Found) → tell (shown_found m') b ≡ tell (shown_found m) a → Tells found_numbers a out 0 after → Tells found_numbers b out 0 after'
      → (get_or after 0 0 ≡ get_or after' 0 0) × (text_of m after ≡ text_of m' after')
  same_text (refused n) b e p q = absurd (omega (arith, p.returned, number_from_1 n))
  same_text (given x) (refused n) e p q = absurd (omega (arith, q.returned, number_from_1 n))
  same_text (given Found.Empty) (given Found.Empty) e p q = rw (p.list, q.list) (refl, refl)
  same_text (given Found.Empty) (given (text_from_to a b)) e p q = absurd (let z : ◌≡◌ {A = ℕ} 0 1 = cc in omega arith)
  same_text (given (text_from_to a b)) (given Found.Empty) e p q = absurd (let z : ◌≡◌ {A = ℕ} 0 1 = cc in omega arith)
  same_text (given (text_from_to a b)) (given (text_from_to c d)) e p q = rw (p.list, q.list) (refl, cc)

-- 7. NOTHING ALTERED
module _ (m : Text) (good : framed m ≡ true) where
  abbrev m' : Text
  m' = strike profile01 m

  abbrev same : SameDefined profile01 m
  same = (demand3.ours m good).defined

  judges-same : (out : List ℕ) → SameAfter (JudgeTells profile01 m out) (JudgeTells profile01 m' out)
  judges-same out =
      let moved : (r : ℕ) (after : List ℕ) → JudgeTells profile01 m out r after → JudgeTells profile01 m' out r after = λ r after h. rw same.judges h in
      record { as_struck = moved; equal = λ r s after after' h k. judge_tells_unique profile01 m' out r s after after' (moved r after h) k }

  replies-same : (stamp number : Text) (l : Lent) → SameAfter (Replied m stamp number l) (Replied m' stamp number l)
  replies-same stamp number l =
      let moved : (r : ℕ) (after : Lent) → Replied m stamp number l r after → Replied m' stamp number l r after =
      λ r after h. rw (same.replies stamp number (length l.buffer)) h in
      record { as_struck = moved; equal = λ r s after after' h k. (replies m' stamp number l).only_one r s after after' (moved r after h) k }

  files-same : (group slot : ℕ) (book : Text) → SameAfter (FileTells profile01 m group slot book) (FileTells profile01 m' group slot book)
  files-same group slot book =
      let e = same.files group slot book in
      let moved : (r : ℕ) (after : Text) → FileTells profile01 m group slot book r after → FileTells profile01 m' group slot book r after =
      λ r after h. record { returned = rw e h.returned; book = rw e h.book } in
      record { as_struck = moved; equal = λ r s after after' h k. file_tells_unique profile01 m' group slot book r s after after' (moved r after h) k }

  looks-same : (name : Text) (place out : List ℕ) → is_listed_place profile01 m (place_asked name place) ≡ true
      → SameText m m' (LookUpTells m name place out) (LookUpTells m' name place out)
  looks-same name place out l =
      let p = place_asked name place in
      let e = same.looks_up p l in
      record {
        number =
            λ r s after after' h k.
            h.returned
            ∙ (sym (told-status (shown_found m) (look_up m p)) ∙ (ap status (sym e) ∙ (told-status (shown_found m') (look_up m' p) ∙ sym k.returned)));
        text = λ after after' h k. same_text m m' out after after' (look_up m p) (look_up m' p) e h k;
      }

-- THE EXPORTED FUNCTIONS
pub exported : Exported
exported =
    record {
      judges = judges;
      looks_up = looks_up;
      resolves = resolves;
      replies = replies;
      files = files;
      reads-slip = reads-slip;
      ten_zeros = ten_zeros;
      only-accepted = only-accepted;
      reason = λ m out after p n h. reason m out after h p n;
      own-slot = own-slot;
      unaltered =
          λ m good. record {
            judges = judges-same m good;
            looks_up = looks-same m good;
            replies = replies-same m good;
            files = files-same m good;
          };
    }
