-- DEMAND 3: what the entries give and leave for a message as it came is what is promised for the struck message.
use mathlib.Core.Path.{◌≡◌, refl, sym, ap, ◌∙◌}
use Prim.Native.Nat.{ℕ}
use mathlib.Core.Bool.{true}
use lib.ListN.{length}
use denote.Ref.{Bor}
use Rattle.std.proofs.Common.{Option, Result, Ok, Err}
use Rattle.text.specs.Bytes.{Text, within}
use Rattle.text.specs.Answer.{Answer, buffer_after, reported, tell}
use Rattle.text.specs.declared.refusal.Refusal.{Refusal}
use Rattle.frame.specs.Frame.{framed}
use Rattle.profile.specs.Table.{Table}
use Rattle.profile.specs.Profile.{profile01}
use Rattle.reader.specs.declared.Place as code
use Rattle.reader.specs.Found as code-found
use Rattle.reader.specs.declared.Fault.{Fault}
use Rattle.reader.specs.declared.search.LookedUp.{LookedUp}
use Rattle.reader.specs.LookUp.{Found}
use Rattle.reader.specs.Told.{place_of, found_of}
use Rattle.reader.specs.Part.{start_of, end_of}
use Rattle.reader.specs.Promise.{LooksUp, Judges}
use Rattle.reader.proofs.Unique.{judge_unique}
use Rattle.reply.specs.Promise.{Replies}
use Rattle.reply.proofs.Unique.{reply_unique}
use Rattle.slip.specs.Book.{book_after}
use Rattle.slip.specs.Told.{done}
use Rattle.slip.specs.Promise.{Files}
use Rattle.slip.proofs.Unique.{file_unique}
use Rattle.striking.specs.Strike.{is_listed_place, strike}
use Rattle.profile.specs.Fit.{fit, has_copies}
use Rattle.profile.proofs.Fit.{profile_fit, profile_copies}
use Rattle.demands.specs.Demand3.{shown_found, look_up_shown, shown_by, handed_shown, SameShown, Unmoved, Demand3}
use Rattle.demands.proofs.SameAnswers.{good', checks-same, judge-same, look-same, reply-same, file-same}
use Rattle.striking.proofs.Striking.{not-empty}

-- what a look-up hands back has the bytes that its answer names
shown-step : (f : Result code-found.Found Refusal) (t m : Text) → t ≡ within (start_of f) (end_of f) m → shown_by f t ≡ tell (shown_found m) (found_of f)
shown-step (Err r) t m e = refl
shown-step (Ok code-found.TheVariants.Empty) t m e = refl
shown-step (Ok (code-found.TheVariants.Text s)) t m e = rw e

handed : (m : Bor Text) (p : code.Place) (r : LookedUp) → LooksUp m p r → handed_shown r ≡ look_up_shown m.now (place_of p)
handed m p r l =
    shown-step r.sort r.text.now m.now l.text.bytes
    ∙ ap (λ (a : Answer Found). tell (shown_found m.now) a) l.sort

module _ (T : Table) (ok : fit T ≡ true) (cs : has_copies T ≡ true) (m : Text) (good : framed m ≡ true) where
  abbrev m' : Text
  m' = strike T m

  judges : (r : Result (Option Fault) Refusal) → Judges T m r → Judges T m' r
  judges r h = h ∙ sym (judge-same T ok cs m good)

  replies : (stamp number before : Text) (r : Result ℕ Refusal) (after : Text) → Replies T m stamp number before r after → Replies T m' stamp number before r after
  replies stamp number before r after h =
      let e = sym (reply-same T ok cs m good stamp number (length before)) in
      record { answer = h.answer ∙ ap reported e; buffer = h.buffer ∙ ap (λ (a : Answer Text). buffer_after a before) e }

  files : (g k : ℕ) (before : Text) (r : Result Unit Refusal) (after : Text) → Files T m g k before r after → Files T m' g k before r after
  files g k before r after h =
      let e = sym (file-same T ok cs m good g k before) in
      record { answer = h.answer ∙ ap done e; book = h.book ∙ ap (λ (a : Answer Text). book_after a k before) e }

  looks : (came struck : Bor Text) → came.now ≡ m → struck.now ≡ m' → (p : code.Place) → is_listed_place T m (place_of p) ≡ true → SameShown p came struck
  looks came struck a b p l =
      let as_struck : (r : LookedUp) → LooksUp came p r → handed_shown r ≡ look_up_shown struck.now (place_of p) =
      λ r h. handed came p r h ∙ rw (a, b) (sym (look-same T ok cs m good (place_of p) l)) in
      record { as_struck = as_struck; equal = λ r s h k. as_struck r h ∙ sym (handed struck p s k) }

  unmoved : Unmoved T m
  unmoved =
      record {
        frame = good' T ok cs m good;
        defined =
            record {
              all-checks = checks-same T ok cs m good;
              judges = judge-same T ok cs m good;
              looks_up = look-same T ok cs m good;
              replies = reply-same T ok cs m good;
              files = file-same T ok cs m good;
            };
        judge = record { as_struck = judges; equal = λ r s h k. judge_unique T m' r s (judges r h) k };
        look_up = looks;
        reply =
            λ stamp number before. record {
              as_struck = replies stamp number before;
              equal = λ r s after after' h k. reply_unique T m' stamp number before r s after after' (replies stamp number before r after h) k;
            };
        file =
            λ g k before. record {
              as_struck = files g k before;
              equal = λ r s after after' h l. file_unique T m' g k before r s after after' (files g k before r after h) l;
            };
      }

-- DEMAND 3
pub demand3 : Demand3
demand3 =
    record {
      any_table = unmoved;
      fits = (profile_fit, profile_copies);
      ours = unmoved profile01 profile_fit profile_copies;
      not-empty = not-empty;
    }
