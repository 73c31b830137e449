-- DEMAND 2: what the entries' promises say of the answers, of the bytes written and of the slips read back.
use mathlib.Core.Path.{◌≡◌, refl, sym, ap, ◌∙◌}
use Prim.Native.Nat.{ℕ, ◌+◌, ◌≤◌}
use native.Mathlib.Omega.{arith}
use mathlib.Core.Bool.{true, false, not}
use mathlib.Core.List.{List, [], ◌++◌}
use mathlib.Core.Option.{Option, none, some}
use lib.ListN.{length, take, drop}
use lib.Dec.{ltb}
use lib.Seq.{take_at, drop_at}
use denote.Ref.{Bor}
use borrow.Author.Tests.{not-false, ltb-false}
use Rattle.std.proofs.Common.{Some, None, Result, Ok, Err}
use Rattle.std.proofs.Common as std
use Rattle.text.specs.Bytes.{Text, empty}
use Rattle.text.specs.Answer.{Answer, given, Test, first, passes, buffer_after, reported}
use Rattle.text.specs.Marks.{usual}
use Rattle.types.specs.Types.{is_stamp, is_reply_number}
use Rattle.escape.specs.Escape.{bad_escape, resolved, resolve_tests, resolve}
use Rattle.escape.specs.Promise.{Resolves}
use Rattle.text.specs.declared.refusal.Refusal.{Refusal}
use Rattle.text.specs.declared.span.Span.{Span}
use Rattle.text.proofs.Tests.{not-true, empty-some}
use Rattle.text.proofs.Answer.{passes-rest, passes-both, first-asked, first-given, given-passes, tell-first}
use Rattle.frame.specs.Frame.{frame_tests, framed}
use Rattle.profile.specs.Profile.{profile01}
use Rattle.reader.specs.declared.Place as code
use Rattle.reader.specs.Found as code-found
use Rattle.reader.specs.declared.Fault as code-fault
use Rattle.reader.specs.declared.search.LookedUp.{LookedUp}
use Rattle.reader.specs.Place.{Place, stands_at, text_at}
use Rattle.reader.specs.LookUp.{Empty, text_from_to, found, look_up_tests, look_up}
use Rattle.reader.specs.Told.{place_of, found_of}
use Rattle.reader.specs.Fault.{checks, fault, verdict, judge}
use Rattle.reader.specs.First.{none_broken}
use Rattle.reader.specs.Promise.{LooksUp, Judges}
use Rattle.reader.proofs.LookUp.{shown-step, shown-empty}
use Rattle.reader.proofs.Part.{looked_up_text}
use Rattle.reader.proofs.Accepted.{judged-accepted, accepted-judged, judged-fault}
use Rattle.reader.proofs.Reasons.{fault_reason01}
use Rattle.reader.proofs.Unique.{verdict-same}
use Rattle.reply.specs.Reply.{no_control, reply_text, longest_reply, reply_tests, reply}
use Rattle.reply.specs.Promise.{Replies}
use Rattle.reply.proofs.Bound.{reply_bound}
use Rattle.slip.specs.Slot.{slot_start, no_slot}
use Rattle.book.specs.declared.reading.SlipValue.{SlipValue}
use Rattle.book.specs.Read.{Part, expected, is_slip, value_from, is_none, or_nothing, slot, read_tests, read_slip}
use Rattle.book.specs.Told.{value_of}
use Rattle.book.specs.Promise.{ReadsSlip}
use Rattle.book.proofs.ReadBack.{filed-there, filed-read, filed-others}
use Rattle.demands.specs.Demand2.{Wrote, Stands, Holds, Demand2}
use Rattle.demands.proofs.Idle.{shut_out}

-- 1. The verdict
otherwise : (m : Text) (r : Result (std.Option code-fault.Fault) Refusal) → Judges profile01 m r → framed m ≡ true → none_broken (checks profile01 m) ≡ false
    → (f : code-fault.Fault) × (r ≡ Ok (Some f))
unfolding judge
otherwise m (Err x) h g b =
    let e = h ∙ first-given (frame_tests m) (verdict profile01 m) g in
    absurd (let z : ◌≡◌ {A = ℕ} 0 1 = cc in omega arith)
otherwise m (Ok None) h g b = not-true (sym b ∙ (judged-accepted profile01 m (sym h)).1)
otherwise m (Ok (Some f)) h g b = (f, refl)

reason : (m : Text) (f : code-fault.Fault) → Judges profile01 m (Ok (Some f)) → (1 ≤ f.reason) × (f.reason ≤ 13)
unfolding judge
reason m f h =
    let p = place_of f.place in
    fault_reason01 m p f.reason (sym (first-asked (frame_tests m) (verdict profile01 m) (fault p f.reason) h))

-- 2. Looking up
-- where a text is found, it starts there, and some byte stands there; where Empty is, none
found_some : (m : Text) (p : Place) (a e : ℕ) → given (text_from_to a e) ≡ look_up m p → (a ≡ (stands_at m p).start) × ((e ≡ a + length (text_at m p)) × (empty (text_at m p) ≡ false))
unfolding look_up text_at
found_some m p a e h =
    let w = shown-step (stands_at m p).start a e (stands_at m p).text (first-asked (look_up_tests m p) (found m p) (text_from_to a e) h) in
    (w.0, (omega (arith, w), empty-some (stands_at m p).text (λ z. omega (arith, w.1.1, z))))

found_none : (m : Text) (p : Place) → given Empty ≡ look_up m p → text_at m p ≡ []
unfolding look_up text_at
found_none m p h =
    shown-empty (stands_at m p).start (stands_at m p).text (first-asked (look_up_tests m p) (found m p) Empty h)

module _ (m : Bor Text) (p : code.Place) (r : LookedUp) (l : LooksUp m p r) where
  sort-told : (f : Result code-found.Found Refusal) → r.sort ≡ f → found_of f ≡ look_up m.now (place_of p)
  sort-told f s = ap found_of (sym s) ∙ l.sort

  text : (t : Span) → r.sort ≡ Ok (code-found.TheVariants.Text t) → Stands m (place_of p) t.start t.end r.text
  text t s =
      let b = looked_up_text m p r t l s in
      let f = found_some m.now (place_of p) t.start t.end (sort-told (Ok (code-found.TheVariants.Text t)) s) in
      record {
        start = f.0;
        end = f.1.0;
        bytes = b;
        not-empty = rw b f.1.1;
        very_part = rw s at l.text;
      }

  nothing : r.sort ≡ Ok code-found.TheVariants.Empty → text_at m.now (place_of p) ≡ []
  nothing s = found_none m.now (place_of p) (sort-told (Ok code-found.TheVariants.Empty) s)

-- 3. Bytes written
-- where a number of bytes is told of the first refusal or a text, no refusal applies, and they are that text
module _ (ts : List Test) (t : Text) (n : ℕ) (answer : given n ≡ reported (first ts t)) where
  told : given n ≡ first ts (length t)
  told = answer ∙ tell-first length ts t

  passed : passes ts ≡ true
  passed = given-passes ts (length t) n (sym told)

  size : n ≡ length t
  size = first-asked ts (length t) n told

  wrote : (before after : Text) → ltb (length before) (length t) ≡ false → after ≡ buffer_after (first ts t) before → Wrote t before after n
  wrote before after room buffer =
      let rest = drop (length t) before in
      let e : after ≡ t ++ rest = buffer ∙ ap (λ (a : Answer Text). buffer_after a before) (first-given ts t passed) in
      record {
        size = size;
        room = omega (arith, size, ltb-false (length before) (length t) room);
        written = ap (take n) e ∙ take_at t rest n (sym size);
        rest = ap (drop n) e ∙ (drop_at t rest n (sym size) ∙ ap (λ (k : ℕ). drop k before) (sym size));
      }

resolves : (t before after : Text) (n : ℕ) → Resolves t before (Ok n) after → Wrote (resolved usual t) before after n
unfolding resolve passes
resolves t before after n h =
    let ts = resolve_tests usual t (length before) in
    let r = resolved usual t in
    let e = passes-rest (bad_escape usual t) _ (passed ts r n h.answer) in
    let room = passes-rest (ltb (length before) (length r)) true e.1 in
    wrote ts r n h.answer before after room.0 h.buffer

-- a reply was written only for a stamp, a reply number and a control number that are good, and where there is room
bounded : (m stamp number : Text) (room : ℕ) → passes (reply_tests profile01 m stamp number room) ≡ true
    → (ltb room (length (reply_text profile01 m stamp number)) ≡ false) × (length (reply_text profile01 m stamp number) ≤ longest_reply)
unfolding passes
bounded m stamp number room e =
    let s = passes-rest _ _ (passes-both (frame_tests m) _ e).1 in
    let n = passes-rest _ _ s.1 in
    let c = passes-rest (no_control m) _ n.1 in
    let r = passes-rest (ltb room (length (reply_text profile01 m stamp number))) true c.1 in (
      r.0,
      reply_bound m stamp number (not-false (is_stamp stamp) s.0) (not-false (is_reply_number number) n.0) c.0,
    )

replies : (m stamp number before after : Text) (n : ℕ) → Replies profile01 m stamp number before (Ok n) after
    → Wrote (reply_text profile01 m stamp number) before after n × (n ≤ longest_reply)
unfolding reply
replies m stamp number before after n h =
    let ts = reply_tests profile01 m stamp number (length before) in
    let t = reply_text profile01 m stamp number in
    let b = bounded m stamp number (length before) (passed ts t n h.answer) in
    (wrote ts t n h.answer before after b.0 h.buffer, omega (arith, size ts t n h.answer, b.1))

-- 4. A value that is read
some-step : (o : Option Part) → is_none o ≡ false → o ≡ some (or_nothing o)
some-step none e = not-true (sym e)
some-step (some p) e = refl

value_read : (book : Bor Text) (k tag : ℕ) (r : SlipValue) (v : Span) → ReadsSlip book k tag r → r.sort ≡ Ok v
    → Holds book k tag v.start v.end r.value
unfolding read_slip passes
value_read book k tag r v h s =
    let o = value_from expected tag (slot_start k) (slot book.now k) in
    let told = ap value_of (sym s) ∙ h.sort in
    let room = passes-rest (no_slot book.now k) _ (given-passes (read_tests book.now k tag) (or_nothing o) _ (sym told)) in
    let slip = passes-rest (not (is_slip (slot book.now k))) _ room.1 in
    let tagged = passes-rest (is_none o) true slip.1 in
    record {
      slip = not-false (is_slip (slot book.now k)) slip.0;
      lies = some-step o tagged.0 ∙ ap some (sym (first-asked (read_tests book.now k tag) (or_nothing o) _ told));
      very_part = rw s at h.value;
    }

-- DEMAND 2
pub demand2 : Demand2
demand2 =
    record {
      accepted = λ m h. judged-accepted profile01 m (sym h);
      faultless = λ m r h f n. verdict-same r (Ok None) (h ∙ accepted-judged profile01 m f n);
      otherwise = otherwise;
      fault = λ m f h. judged-fault profile01 m (place_of f.place) f.reason (sym h);
      reason = reason;
      conditions = refl;
      text = λ m p r t l s. text m p r l t s;
      nothing = λ m p r l s. nothing m p r l s;
      resolves = resolves;
      replies = replies;
      files = filed-there;
      value = value_read;
      reads_back = λ m g k before book h. filed-read m g k before book.now h book refl;
      others = λ m g k old book h. filed-others m g k old.now book.now h book refl old refl;
      not_idle = shut_out;
    }
