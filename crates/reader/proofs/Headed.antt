-- A message with a good frame begins with its header; the walk from there is the verdict.
use mathlib.Core.Path.{◌≡◌, sym, ap, ◌∙◌}
use Prim.Native.Nat.{ℕ}
use native.Mathlib.Omega.{arith}
use mathlib.Core.Bool.{true}
use mathlib.Core.List.{List, [], ◌∷◌, append-nil}
use lib.ListN.{get_or, drop}
use Rattle.text.specs.Bytes.{Text, bytes, some, keep, same, within}
use Rattle.text.specs.Answer.{refused, given, Test, first}
use Rattle.text.specs.declared.refusal.Refusal.{Refusal}
use Rattle.text.proofs.Answer.{first-refused, first-given, given-passes}
use Rattle.frame.specs.Segments.{segments, name}
use Rattle.frame.specs.Frame.{frame_tests, framed}
use Rattle.frame.specs.Told.{framing_of}
use Rattle.std.proofs.Common.{subst, Option, None, Some, Result, Ok, Err}
use Rattle.std.specs.Result.{result_err}
use Rattle.frame.proofs.Header.{header-opens}
use Rattle.profile.specs.Table.{Table, is_listed, may_follow}
use Rattle.profile.specs.Numbers.{AreTable, table_of, number_in, segment_number}
use Rattle.profile.specs.Order.{Sound}
use Rattle.reader.specs.declared.Fault.{Fault}
use Rattle.walk.specs.declared.Halt.{Halt}
use Rattle.checks.specs.View.{listed_segments, view}
use Rattle.checks.specs.Fault.{accepted, checks, verdict, judge}
use Rattle.reader.specs.Told.{verdict_told}
use Rattle.listing.specs.Listing.{Here, Next}
use Rattle.walk.specs.Judged.{number_at, halt_verdict, walk_verdict, Counts, Walks}
use Rattle.codes.proofs.Rules.{are_same_table, listed-number}

module _ (t : List ℕ) (m : Text) (sound : Sound t) (good : framed m ≡ true) where
  abbrev T : Table
  T = table_of t

  header-listed : is_listed T (bytes "MSH") ≡ true
  unfolding number_in same
  header-listed = listed-number t sound (bytes "MSH")

  listed-first : listed_segments T m ≡ get_or (segments m) 0 [] ∷ keep (λ s. is_listed T (name s)) (drop 1 (segments m))
  unfolding keep
  listed-first =
      let opening = header-opens m good in
      ap (keep (λ s. is_listed T (name s))) opening.0 ∙ rw (opening.1, header-listed)

  -- there is one
  pub headed-some : listed_segments T m ≡ [] → ⊥
  headed-some e = let f = listed-first in let z : ◌≡◌ {A = ℕ} 0 1 = cc in omega arith

  module _ (start end k : ℕ) (next : Next T m 0 start end k) where
    named-header : name (within start end m) ≡ bytes "MSH"
    named-header =
        let f = listed-first in
        let e : within start end m ≡ get_or (segments m) 0 [] = cc next.first in
        ap name e ∙ (header-opens m good).1

    -- it is the header
    pub headed-number : k ≡ 1
    unfolding number_in same
    headed-number = sym next.here.number.0 ∙ ap segment_number named-header

    header-first : may_follow T [] (name (within start end m)) ≡ true
    unfolding table_of some same
    header-first = rw named-header

    counts-none : Counts m start []
    unfolding keep
    counts-none n l = omega (arith, next.counts n l)

    pub headed-walk : (r : Result Unit Halt) → Walks T m start end r → walk_verdict T m r ≡ verdict T m
    unfolding verdict checks view
    headed-walk r w = w.same [] [] counts-none header-first ∙ rw next.first

    -- reading stopped nowhere, or there
    pub headed-good : (r : Result Unit Halt) → Walks T m start end r → result_err r ≡ None → accepted ≡ verdict T m
    headed-good (Ok u) w e = headed-walk (Ok u) w
    headed-good (Err h) w e = cc

    pub headed-stop : (r : Result Unit Halt) (h : Halt) → Walks T m start end r → result_err r ≡ Some h
        → (halt_verdict T m h ≡ verdict T m) × Here m h.start h.end (number_at m h.start h.end)
    headed-stop (Ok u) h w e = absurd (let z : ◌≡◌ {A = ℕ} 0 1 = cc in omega arith)
    headed-stop (Err g) h w e =
        let same : g ≡ h = cc in
        subst (λ (k : Halt). (halt_verdict T m k ≡ verdict T m) × Here m k.start k.end (number_at m k.start k.end)) same (headed-walk (Err g) w, w.here)

-- ---- the frame's tests, then the verdict

module _ (m : Text) (a : Result Unit Refusal) (told : framing_of a ≡ first (frame_tests m) (tt {0})) where
  pub judged-frame : (T : Table) (r : Refusal) → a ≡ Err r → refused r ≡ judge T m
  unfolding judge
  judged-frame T r e =
      first-refused (frame_tests m) [] (verdict T m) r (ap framing_of (sym e) ∙ told)
      ∙ ap (λ (ts : List Test). first ts (verdict T m)) (append-nil (frame_tests m))

  pub judged-framed : (u : Unit) → a ≡ Ok u → framed m ≡ true
  judged-framed u e = given-passes (frame_tests m) tt tt (sym (ap framing_of (sym e) ∙ told))

  pub judged-on : (t : List ℕ) (T : Table) (v : Option Fault) (u : Unit) → AreTable t T → a ≡ Ok u → verdict_told v ≡ verdict (table_of t) m → given (verdict_told v) ≡ judge T m
  unfolding judge
  judged-on t T v u tells e w =
      ap given w ∙ ap (λ (U : Table). given (verdict U m)) (are_same_table t T tells) ∙ sym (first-given (frame_tests m) (verdict T m) (judged-framed u e))
