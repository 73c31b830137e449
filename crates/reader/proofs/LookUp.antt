-- The text that a look-up finds is the very part of the message.
use mathlib.Core.Path.{◌≡◌, refl, sym, ap, ◌∙◌}
use Prim.Native.Nat.{ℕ, ◌+◌, ◌≤◌, ◌<◌}
use native.Mathlib.Omega.{arith}
use mathlib.Core.Bool.{Bool, true, false, not, ◌&&◌}
use mathlib.Core.List.{List, [], ◌∷◌}
use lib.ListN.{length, drop, length-take, length-drop}
use borrow.Author.Tests.{not-true, not-false}
use Rattle.text.specs.Bytes.{Text}
use Rattle.text.specs.Ranges.{◌to◌, is_within}
use Rattle.text.proofs.Tests.{both, within_low}
use Rattle.text.specs.Answer.{Answer, refused, given, Test, test, first}
use Rattle.text.specs.declared.refusal.Refusal.{Refusal}
use Rattle.text.specs.declared.refusal.Refusal.TheVariants.{BadPlace, NoSegment}
use Rattle.text.specs.declared.marks.Marks.{Marks}
use Rattle.text.specs.Marks.{marks_of}
use Rattle.parts.specs.declared.Numbers.{Numbers}
use Rattle.frame.specs.Segments.{is_name}
use Rattle.text.proofs.Answer.{first-refused, first-through, first-asked}
use Rattle.frame.specs.Frame.{frame_tests}
use Rattle.std.proofs.Common.{Option, None, Some, Result, Ok, Err}
use Rattle.std.specs.Option.{ok_or}
use Rattle.text.specs.declared.span.Span.{Span}
use Rattle.frame.specs.Told.{framing_of}
use Rattle.reader.specs.Copied.{standing}
use Rattle.reader.proofs.Seek.{standing-missing, standing_enough, standing-start, standing-text}
use Rattle.reader.specs.declared.Place as code
use Rattle.seek.specs.declared.Found as code-found
use Rattle.checks.specs.LookUp.{Found, Empty, text_from_to, shown, found, too_few, look_up_tests, look_up}
use Rattle.seek.specs.Inner.{segment, leaf_found}
use Rattle.reader.specs.Told.{place_of, found_of}
use Rattle.reader.specs.Inner.{Inside, numbers_of}
use Rattle.checks.proofs.Stands.{text-is, text-stands, found-is}
use Rattle.checks.specs.Place.{Place, is_place, text_at}
use Rattle.checks.specs.Starts.{start_at}

-- the text that an answer names lies in the message
pub shown-step : (k a e : ℕ) (t : Text) → text_from_to a e ≡ shown k t → (a ≡ k) × ((e ≡ k + length t) × (0 < length t))
shown-step k a e [] h = absurd (let z : ◌≡◌ {A = ℕ} 0 1 = cc in omega arith)
shown-step k a e (b ∷ t) h = (cc, (cc, omega arith))

pub shown-empty : (k : ℕ) (t : Text) → Empty ≡ shown k t → t ≡ []
shown-empty k [] h = refl
shown-empty k (b ∷ t) h = absurd (let z : ◌≡◌ {A = ℕ} 0 1 = cc in omega arith)

text-inside : (m : Text) (p : Place) (a e : ℕ) → text_from_to a e ≡ found m p → (a ≤ e) × (e ≤ length m)
text-inside m p a e h =
    let k = start_at m p in
    let t = text_at m p in
    let w = shown-step k a e t (h ∙ found-is m p) in (
      omega (arith, w),
      omega (arith, w, ap length (text-stands m p), length-take (length t) (drop k m), length-drop k m),
    )

pub found_inside : (m : Text) (p : Place) (f : Result code-found.Found Refusal) → found_of f ≡ look_up m p → Inside f (length m)
unfolding look_up
found_inside m p (Err r) h = (omega arith, omega arith)
found_inside m p (Ok code-found.TheVariants.Empty) h = (omega arith, omega arith)
found_inside m p (Ok (code-found.TheVariants.Text s)) h =
    text-inside m p s.start s.end (first-asked (look_up_tests m p) (found m p) (text_from_to s.start s.end) h)

-- NO SEGMENT, and what is found where the segment stands
module _ (m : Text) (p : code.Place) where
  abbrev n : Text
  n = (place_of p).name

  looked_missing : None ≡ standing m n p.occurrence
      → refused NoSegment ≡ first (test NoSegment (too_few m (place_of p)) ∷ []) (found m (place_of p))
  unfolding first
  looked_missing h = rw (standing-missing m n p.occurrence h)

  looked_leaf : (s : Span) (q : Marks) (f : Answer Found) → Some s ≡ standing m n p.occurrence → q ≡ marks_of m
      → f ≡ given (leaf_found q (numbers_of p) s.start (segment s m))
      → f ≡ first (test NoSegment (too_few m (place_of p)) ∷ []) (found m (place_of p))
  unfolding first start_at
  looked_leaf s q f t k g =
      g ∙ rw (k, standing-text m n p.occurrence s t, standing_enough m n p.occurrence s t, found-is m (place_of p), text-is m (place_of p), standing-start m n p.occurrence s t)

-- the ways out of a look-up
pub place-numbers : (p : Place) (b : Bool) → b ≡ is_place p → not b ≡ false → (1 ≤ p.occurrence) × (1 ≤ p.field)
place-numbers p b e n =
    let all = sym e ∙ not-false b n in
    let b1 = is_name p.name && is_within (1 to 512) p.occurrence in
    let b2 = b1 && is_within (1 to 255) p.field in
    let b3 = b2 && is_within (1 to 65535) p.repetition in
    let b4 = b3 && is_within (1 to 255) p.component in
    let h4 = (both b4 (is_within (1 to 255) p.subcomponent) all).0 in
    let h3 = (both b3 (is_within (1 to 255) p.component) h4).0 in
    let h2 = (both b2 (is_within (1 to 65535) p.repetition) h3).0 in
    let h1 = both b1 (is_within (1 to 255) p.field) h2 in
    let h0 = both (is_name p.name) (is_within (1 to 512) p.occurrence) h1.0 in
    (within_low 1 512 p.occurrence h0.1, within_low 1 255 p.field h1.1)

module _ (m : Text) (p : code.Place) (a : Result Unit Refusal) (told : framing_of a ≡ first (frame_tests m) tt) where
  abbrev rest : List Test
  rest = test BadPlace (not (is_place (place_of p))) ∷ test NoSegment (too_few m (place_of p)) ∷ []

  pub looked_frame : (r : Refusal) → a ≡ Err r → refused r ≡ look_up m (place_of p)
  unfolding look_up
  looked_frame r e = first-refused (frame_tests m) rest (found m (place_of p)) r (ap framing_of (sym e) ∙ told)

  module _ (u : Unit) (e : a ≡ Ok u) (b : Bool) (asked : b ≡ is_place (place_of p)) where
    through : first rest (found m (place_of p)) ≡ look_up m (place_of p)
    unfolding look_up
    through = first-through (frame_tests m) rest (found m (place_of p)) (ap framing_of (sym e) ∙ told)

    pub looked_place : not b ≡ true → refused BadPlace ≡ look_up m (place_of p)
    unfolding first
    looked_place n = rw (← asked, not-true b n) at through

    module _ (good : not b ≡ false) where
      looked_on : (f : Answer Found) → f ≡ first (test NoSegment (too_few m (place_of p)) ∷ []) (found m (place_of p)) → f ≡ look_up m (place_of p)
      unfolding first
      looked_on f g = g ∙ (rw (← asked, not-false b good) at through)

      pub looked-segment : (o : Option Span) (r : Refusal) → o ≡ standing m (place_of p).name p.occurrence → ◌≡◌ {A = Result Span Refusal} (Err r) (ok_or o NoSegment)
          → refused r ≡ look_up m (place_of p)
      looked-segment None r h e =
          let z : r ≡ NoSegment = cc in
          rw z (looked_on (refused NoSegment) (looked_missing m p h))
      looked-segment (Some s) r h e = absurd (cc)

      pub looked-found : (s : Span) (q : Marks) (n : Numbers) (l : Found) → Some s ≡ standing m (place_of p).name p.occurrence → q ≡ marks_of m → n ≡ numbers_of p
          → l ≡ leaf_found q n s.start (segment s m) → given l ≡ look_up m (place_of p)
      looked-found s q n l t k e g =
          looked_on (given l) (looked_leaf m p s q (given l) t k (ap given (g ∙ ap (λ (n : Numbers). leaf_found q n s.start (segment s m)) e)))
