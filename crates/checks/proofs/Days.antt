-- Where reason 13 is told, the text is a date whose month has no such day.
use mathlib.Core.Path.{◌≡◌, refl, sym, ap, ◌∙◌}
use mathlib.Core.Bool.{Bool, true, false, not, ◌&&◌}
use mathlib.Core.List.{List, [], ◌∷◌}
use Prim.Native.Nat.{ℕ, ◌≤◌}
use native.Mathlib.Omega.{arith}
use borrow.Author.Tests.{not-true, not-false}
use Rattle.text.specs.Bytes.{Text, pick, empty, is_one}
use Rattle.text.proofs.Tests.{not-true as no, within-high, picks}
use Rattle.escape.specs.Escape.{bad_escape, too_long}
use Rattle.types.specs.Types.{digits, is_dtm, has_day, day_exists}
use Rattle.profile.specs.Table.{Simple, DTM, Codes, any, only, of_type, no_such_day}
use Rattle.profile.specs.Order.{reason_fits}
use Rattle.profile.proofs.Days.{only-dates, without_day}
use Rattle.checks.specs.Place.{Place}
use Rattle.checks.specs.Fault.{Verdict, accepted, fault, Check, check, list_checks, first_broken}
use Rattle.checks.specs.Days.{ToldForItsDay}

-- what has another reason is told apart
abbrev reason_of : Verdict → ℕ
reason_of accepted = 0
reason_of (fault p n) = n

apart : (v : Verdict) (p : Place) → reason_of v ≤ 12 → v ≡ fault p 13 → ⊥
apart v p h e = let z : reason_of v ≡ 13 = ap reason_of e in omega (arith, h, z)

-- a list does not tell 13
of_list : (p : Place) (c : Codes) (t : Text) → reason_fits c ≡ true → first_broken (list_checks p c t) ≡ fault p 13 → ⊥
unfolding first_broken
of_list p any t fits e = apart accepted p (omega arith) e
of_list p (only codes n) t fits e =
    let b = not (empty t) && not (is_one t codes) in
    apart (pick b (fault p n) accepted) p (picks (λ v. reason_of v ≤ 12) b {x = fault p n} {y = accepted} (within-high 1 12 n fits) (omega arith)) e

-- so the check of the day does, and that of the form holds
leaf-step : (p : Place) (cs : List Check) (star escape long form day : Bool) → (first_broken cs ≡ fault p 13 → ⊥)
    → first_broken (check p 3 star ∷ check p 6 escape ∷ check p 5 long ∷ check p 7 form ∷ check p 13 day ∷ cs) ≡ fault p 13 → (form ≡ false) × (day ≡ true)
unfolding first_broken
leaf-step p cs true escape long form day h e = absurd (apart (fault p 3) p (omega arith) e)
leaf-step p cs false true long form day h e = absurd (apart (fault p 6) p (omega arith) e)
leaf-step p cs false false true form day h e = absurd (apart (fault p 5) p (omega arith) e)
leaf-step p cs false false false true day h e = absurd (apart (fault p 7) p (omega arith) e)
leaf-step p cs false false false false true h e = (refl, refl)
leaf-step p cs false false false false false h e = absurd (h e)

-- then the text has a day, and so some bytes
has_day_lem : (k : Simple) (t : Text) → no_such_day k t ≡ true → (b : Bool) → has_day t ≡ b → has_day t ≡ true
has_day_lem k t e true h = h
has_day_lem k t e false h = no (sym (without_day k t h) ∙ e)

filled : (t : Text) → has_day t ≡ true → empty t ≡ false
unfolding digits
filled [] e = no e
filled (b ∷ t) e = refl

pub told_for_its_day : ToldForItsDay
told_for_its_day q p l t fits e =
    let cs = list_checks p l.list t in
    let w = leaf-step p cs (empty t && l.star) (bad_escape q t) (too_long q l.limit t) (not (empty t) && not (of_type l.type t)) (no_such_day l.type t) (of_list p l.list t fits) e in
    let date : l.type ≡ DTM = only-dates l.type t w.1 in
    let day = has_day_lem l.type t w.1 (has_day t) refl in
    let form : not (is_dtm t) ≡ false = rw (date, filled t day) at w.0 in
    let none : not (day_exists t) ≡ true = rw date at w.1 in
    (date, (not-false (is_dtm t) form, (day, not-true (day_exists t) none)))
