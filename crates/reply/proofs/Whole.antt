-- The whole reply: its segments one after another, and which answer each way out gives.
use mathlib.Core.Path.{◌≡◌, refl, sym, ap, ◌∙◌}
use Prim.Native.Nat.{ℕ, ◌+◌, ◌≤◌, ◌<◌}
use native.Mathlib.Omega.{arith}
use mathlib.Core.Bool.{true, false}
use mathlib.Core.List.{List, [], ◌∷◌, ◌++◌, append_assoc, append-nil}
use lib.ListN.{length, take, length-append}
use lib.Dec.{ltb}
use borrow.Author.Tests.{lt-ltb, le-ltb}
use Rattle.text.specs.Bytes.{Text, pick, bytes, cr}
use Rattle.types.specs.Types.{is_stamp, is_reply_number}
use Rattle.text.specs.Answer.{Answer, refused, given, first, tell}
use Rattle.text.specs.Puts.{Puts}
use Rattle.text.specs.Marks.{usual}
use Rattle.std.proofs.Common.{Option, None, Some, Result, Ok, Err}
use Rattle.text.specs.declared.refusal.Refusal.{Refusal}
use Rattle.text.specs.declared.refusal.Refusal.TheVariants.{BadStamp, BadReplyNumber, NoControlNumber, NoRoom}
use Rattle.text.proofs.Answer.{first-passed, first-refused, first-asked, given-passes, tell-first}
use Rattle.text.proofs.Puts.{puts-head, puts-front-room, puts-front-ends, puts-front}
use Rattle.parts.specs.Split.{led, join, closed}
use Rattle.frame.specs.Frame.{frame_tests, framed}
use Rattle.profile.specs.Profile.{profile01}
use Rattle.reader.specs.declared.Fault as code
use Rattle.reader.specs.Fault.{Verdict, fault, verdict, judge}
use Rattle.reader.specs.Told.{place_of, verdict_told, verdict_of}
use Rattle.heading.specs.Header.{reply_header}
use Rattle.report.specs.Error as error
use Rattle.report.specs.Error.{reply_err}
use Rattle.report.specs.Inner.{code_of, error_of}
use Rattle.reply.specs.Reply as spec
use Rattle.reply.specs.Reply.{control, no_control, reply_msa, reply_text, longest_reply, own_tests}
use Rattle.reply.specs.Inner.{own_reply, Acknowledges}
use Rattle.reply.specs.Promise.{Replies}
use Rattle.reply.proofs.Bound.{reply_bound}

-- the header, MSA and what follows it
msa_step : (h a k : Text) (es : List Text)
    → (h ++ cr ∷ []) ++ ((bytes "MSA|" ++ a ++ bytes "|") ++ (k ++ (cr ∷ closed cr es))) ≡ closed cr (h ∷ join usual.field (bytes "MSA" ∷ a ∷ k ∷ []) ∷ es)
unfolding closed join led
msa_step h a k es =
    simp (append_assoc, append-nil)
    (ap (λ (l : Text). h ++ ((cr ∷ bytes "MSA|") ++ l)) (sym (append_assoc a (usual.field ∷ k) (cr ∷ closed cr es))))

closed_none : closed cr [] ≡ []
unfolding closed
closed_none = refl

segments-written : (h m : Text) (f : Option code.Fault) (w : Verdict) → verdict_told f ≡ w
    → (h ++ cr ∷ []) ++ (code_of (Ok f) ++ (control m ++ (cr ∷ error_of (Ok f)))) ≡ closed cr (h ∷ reply_msa m w ∷ reply_err w)
segments-written h m None w e = rw (← e) (rw closed_none at (msa_step h (bytes "AA") (control m) []))
segments-written h m (Some f) w e =
    rw (← e) (msa_step h (error.code (fault (place_of f.place) f.reason)) (control m) (reply_err (fault (place_of f.place) f.reason)))

module _ (m stamp number : Text) (f : Option code.Fault) (e : verdict_told f ≡ verdict profile01 m) where
  pub reply-written : (reply_header m stamp number ++ cr ∷ []) ++ (code_of (Ok f) ++ (control m ++ (cr ∷ error_of (Ok f)))) ≡ reply_text profile01 m stamp number
  unfolding reply_text
  reply-written = segments-written (reply_header m stamp number) m f (verdict profile01 m) e

  pub reply-length : length (reply_text profile01 m stamp number)
      ≡ length (reply_header m stamp number ++ cr ∷ []) + (length (code_of (Ok f)) + (length (control m) + (1 + length (error_of (Ok f)))))
  reply-length =
      omega (
        arith,
        ap length (sym reply-written),
        length-append (reply_header m stamp number ++ cr ∷ []) (code_of (Ok f) ++ (control m ++ (cr ∷ error_of (Ok f)))),
        length-append (code_of (Ok f)) (control m ++ (cr ∷ error_of (Ok f))),
        length-append (control m) (cr ∷ error_of (Ok f)),
      )

-- stamp, reply number and control number are as they must be
pub record Fit (m stamp number : Text) : Type 0 where
  pub stamped : is_stamp stamp ≡ true
  pub numbered : is_reply_number number ≡ true
  pub controlled : no_control m ≡ false

-- THE WAYS OUT where the frame is good
module _ (m stamp number before : Text) where
  abbrev t : Text
  t = reply_text profile01 m stamp number

  abbrev own : Answer Text
  own = own_reply m stamp number (length before)

  own-refused : (x : Refusal) → own ≡ refused x → Acknowledges m stamp number before (Err x) before
  own-refused x e = record { answer = rw e; buffer = rw e }

  pub acknowledges_stamp : is_stamp stamp ≡ false → Acknowledges m stamp number before (Err BadStamp) before
  unfolding first
  acknowledges_stamp h = own-refused BadStamp (rw h)

  pub acknowledges_number : is_stamp stamp ≡ true → is_reply_number number ≡ false → Acknowledges m stamp number before (Err BadReplyNumber) before
  unfolding first
  acknowledges_number s h = own-refused BadReplyNumber (rw (s, h))

  pub acknowledges_control : is_stamp stamp ≡ true → is_reply_number number ≡ true → no_control m ≡ true
      → Acknowledges m stamp number before (Err NoControlNumber) before
  unfolding first
  acknowledges_control s n h = own-refused NoControlNumber (rw (s, n, h))

  module _ (fit : Fit m stamp number) where
    pub acknowledges_room : length t ≤ longest_reply
    acknowledges_room = reply_bound m stamp number fit.stamped fit.numbered fit.controlled

    passed : own ≡ pick (ltb (length before) (length t)) (refused NoRoom) (given t)
    unfolding first
    passed = rw (fit.stamped, fit.numbered, fit.controlled)

    -- the reply as it is written to the front of the buffer
    pub acknowledges_put : {e : ℕ} {after : Text} → Puts before 0 t after e → Acknowledges m stamp number before (Ok e) after
    acknowledges_put {e} {after} p =
        let g : own ≡ given t = passed ∙ rw (le-ltb (length before) (length t) (puts-front-room p)) in
        record { answer = rw g (ap given (puts-front-ends p)); buffer = rw g (puts-front p) }

    -- and as it is written aside, where every reply has room, before it is copied there
    module _ {out out' : Text} {r : ℕ} (aside : Puts out 0 t out' r) where
      pub acknowledges_full : length before < r → Acknowledges m stamp number before (Err NoRoom) before
      acknowledges_full h =
          own-refused NoRoom (passed ∙ rw (lt-ltb (length before) (length t) (omega (arith, puts-front-ends aside))))

      pub acknowledges_given : {e : ℕ} {after : Text} → Puts before 0 (take r out') after e → Acknowledges m stamp number before (Ok e) after
      acknowledges_given copied = acknowledges_put (rw (puts-head aside) at copied)

-- THE REPLY, by the verdict: one that is no refusal is told where the frame is good
module _ (m : Text) (v : Result (Option code.Fault) Refusal) (judged : verdict_of v ≡ judge profile01 m) where
  module _ (f : Option code.Fault) (told : v ≡ Ok f) where
    good : framed m ≡ true
    unfolding judge
    good = given-passes (frame_tests m) (verdict profile01 m) (verdict_told f) (sym judged ∙ ap verdict_of told)

    pub judged-good : verdict_told f ≡ verdict profile01 m
    unfolding judge
    judged-good = first-asked (frame_tests m) (verdict profile01 m) (verdict_told f) (sym (ap verdict_of told) ∙ judged)

  module _ (stamp number before : Text) where
    pub replies-refused : (x : Refusal) → v ≡ Err x → Replies profile01 m stamp number before (Err x) before
    unfolding judge spec.reply
    replies-refused x e =
        let g : refused x ≡ first (frame_tests m) (tt {0}) =
        ap (λ (a : Answer Verdict). tell (λ w. tt {0}) a) (ap verdict_of (sym e) ∙ judged) ∙ tell-first (λ w. tt {0}) (frame_tests m) (verdict profile01 m)
        in
        let l = first-refused (frame_tests m) (own_tests profile01 m stamp number (length before)) (reply_text profile01 m stamp number) x g in
        record { answer = rw (← l); buffer = rw (← l) }

    pub replies-given : (f : Option code.Fault) → v ≡ Ok f → {r : Result ℕ Refusal} {after : Text} → Acknowledges m stamp number before r after
        → Replies profile01 m stamp number before r after
    unfolding spec.reply
    replies-given f told {r} {after} a =
        let l = first-passed (frame_tests m) (own_tests profile01 m stamp number (length before)) (reply_text profile01 m stamp number) (good f told) in
        record { answer = rw l a.answer; buffer = rw l a.buffer }
