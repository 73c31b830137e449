-- What the verdict comes to: accepted exactly where no check is broken, and else the first broken check, with none broken before it.
use mathlib.Core.Path.{◌≡◌, refl, sym, ap, ◌∙◌}
use Prim.Native.Nat.{ℕ}
use native.Mathlib.Omega.{arith}
use mathlib.Core.Bool.{Bool, true, false, not, ◌&&◌}
use mathlib.Core.List.{List, [], ◌∷◌}
use Rattle.text.specs.Bytes.{Text, pick, every}
use Rattle.text.specs.Answer.{given}
use Rattle.text.proofs.Tests.{not-true}
use Rattle.text.proofs.First.{first-here, first-later}
use Rattle.text.proofs.Answer.{first-given, given-passes, first-asked}
use Rattle.frame.specs.Frame.{frame_tests, framed}
use Rattle.profile.specs.Table.{Table}
use Rattle.checks.specs.Place.{Place}
use Rattle.checks.specs.Fault.{Check, checks, Verdict, accepted, fault, first_broken, verdict, judge}
use Rattle.checks.specs.First.{is_broken, none_broken, FirstBroken}

none-step : (b r : Bool) (p : Place) (n : ℕ) (v : Verdict) → (v ≡ accepted → r ≡ true) → pick b (fault p n) v ≡ accepted → not b && r ≡ true
none-step true r p n v h e = absurd (let z : ◌≡◌ {A = ℕ} 0 1 = cc in omega arith)
none-step false r p n v h e = h e

pub accepted-none : (cs : List Check) → first_broken cs ≡ accepted → none_broken cs ≡ true
unfolding first_broken every
accepted-none [] e = refl
accepted-none (c ∷ cs) e = none-step c.broken (none_broken cs) c.place c.reason (first_broken cs) (accepted-none cs) e

accepted-step : (b r : Bool) (p : Place) (n : ℕ) (v : Verdict) → (r ≡ true → v ≡ accepted) → not b && r ≡ true → pick b (fault p n) v ≡ accepted
accepted-step true r p n v h e = not-true e
accepted-step false r p n v h e = h e

none-accepted : (cs : List Check) → none_broken cs ≡ true → first_broken cs ≡ accepted
unfolding first_broken every
none-accepted [] e = refl
none-accepted (c ∷ cs) e = accepted-step c.broken (none_broken cs) c.place c.reason (first_broken cs) (none-accepted cs) e

first_step : (c : Check) (cs : List Check) (p : Place) (n : ℕ) (b : Bool) → c.broken ≡ b → (first_broken cs ≡ fault p n → FirstBroken cs p n)
    → pick b (fault c.place c.reason) (first_broken cs) ≡ fault p n → FirstBroken (c ∷ cs) p n
first_step c cs p n true s h e = record { found = c; first = first-here is_broken c cs s; place = cc; reason = cc }
first_step c cs p n false s h e =
    let f = h e in
    record { found = f.found; first = first-later is_broken c f.found cs s f.first; place = f.place; reason = f.reason }

fault-first : (cs : List Check) (p : Place) (n : ℕ) → first_broken cs ≡ fault p n → FirstBroken cs p n
unfolding first_broken
fault-first [] p n e = absurd (let z : ◌≡◌ {A = ℕ} 0 1 = cc in omega arith)
fault-first (c ∷ cs) p n e = first_step c cs p n c.broken refl (fault-first cs p n) e

-- ACCEPTED EXACTLY WHERE the frame is good and no check is broken
module _ (T : Table) (m : Text) where
  pub judged-accepted : judge T m ≡ given accepted → (framed m ≡ true) × (none_broken (checks T m) ≡ true)
  unfolding judge verdict
  judged-accepted e = (
    given-passes (frame_tests m) (verdict T m) accepted e,
    accepted-none (checks T m) (sym (first-asked (frame_tests m) (verdict T m) accepted (sym e))),
  )

  pub accepted-judged : framed m ≡ true → none_broken (checks T m) ≡ true → judge T m ≡ given accepted
  unfolding judge verdict
  accepted-judged f n = first-given (frame_tests m) (verdict T m) f ∙ ap given (none-accepted (checks T m) n)

  -- A FAULT is the first broken check
  pub judged-fault : (p : Place) (n : ℕ) → judge T m ≡ given (fault p n) → (framed m ≡ true) × FirstBroken (checks T m) p n
  unfolding judge verdict
  judged-fault p n e = (
    given-passes (frame_tests m) (verdict T m) (fault p n) e,
    fault-first (checks T m) p n (sym (first-asked (frame_tests m) (verdict T m) (fault p n) (sym e))),
  )
