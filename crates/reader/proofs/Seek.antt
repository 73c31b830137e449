-- What the walk to an occurrence keeps: where it stands, told from the segments that are left.
use mathlib.Core.Path.{◌≡◌, refl, sym, ap, ◌∙◌}
use Prim.Native.Nat.{ℕ, zero, suc, ◌+◌, ◌-◌, ◌≤◌, ◌<◌}
use native.Mathlib.Omega.{arith}
use mathlib.Core.Bool.{Bool, true, false}
use mathlib.Core.List.{List, [], ◌∷◌}
use lib.ListN.{length, get_or, drop}
use lib.Seq.{length-take-le}
use lib.Dec.{ltb, leb-suc-suc}
use borrow.Author.Tests.{lt-ltb, le-ltb, ltb-true, ltb-false}
use Rattle.std.proofs.Common.{Option, None, Some}
use Rattle.text.specs.Bytes.{Text, pick, cr, keep}
use Rattle.text.specs.declared.span.Span.{Span}
use Rattle.parts.specs.Split.{ended}
use Rattle.parts.specs.Start.{before, reach}
use Rattle.parts.specs.Span.{span}
use Rattle.parts.proofs.Split.{before-first, before_le, stands_le}
use Rattle.parts.proofs.Reach.{ended-next, ended-last, before-next}
use Rattle.frame.specs.Segments.{segments, named, of_name, occurrence, fewer}
use Rattle.frame.specs.Starts.{ahead, occurrence_start}
use Rattle.frame.proofs.Segments.{occurrence-stands}
use Rattle.seek.specs.Inner.{LiesIn, segment}
use Rattle.reader.specs.Copied.{standing}

-- how many bytes the first j of some segments take, each with its CR; and all of them
abbrev pub offset : List Text → ℕ → ℕ
offset [] j = 0
offset (s ∷ ss) zero = 0
offset (s ∷ ss) (suc j) = length s + 1 + offset ss j

abbrev pub taken : List Text → ℕ
taken ss = offset ss (length ss)

offset-none : (ss : List Text) → offset ss 0 ≡ 0
offset-none [] = refl
offset-none (s ∷ ss) = refl

-- where there is a piece that a separator ends, there is a separator
separator-step : (sep : ℕ) (t : Text) (b : Bool) → ltb (reach sep t) (length t) ≡ b → 1 ≤ length (ended sep t) → reach sep t < length t
separator-step sep t true e h = ltb-true (reach sep t) (length t) e
separator-step sep t false e h = absurd (omega (arith, ap length (ended-last sep t (ltb-false (reach sep t) (length t) e))))

pub separator-ahead : (sep : ℕ) (t : Text) → 1 ≤ length (ended sep t) → reach sep t < length t
separator-ahead sep t h = separator-step sep t (ltb (reach sep t) (length t)) refl h

before-offset : (t : Text) (j : ℕ) → j ≤ length (segments t) → before cr t j ≡ offset (segments t) j
before-offset t zero h = before-first cr t ∙ sym (offset-none (segments t))
before-offset t (suc i) h =
    let l = separator-ahead cr t (omega arith) in
    let n = ended-next cr t l in
    let u = drop (suc (reach cr t)) t in
    rw n (omega (arith, before-next cr t i l, length-take-le (reach cr t) t (omega arith), before-offset u i (omega (arith, ap length n))))

pub taken-most : (m : Text) → taken (segments m) ≤ length m
taken-most m = omega (arith, before-offset m (length (segments m)) (omega arith), before_le cr m (length (segments m)))

-- the segment of a name that has i of that name before it, among those that begin at a place
abbrev from-here : Text → ℕ → List Text → ℕ → Option Span
from-here n start ss i =
    pick (ltb (length (of_name n ss)) (suc i)) None (Some (span (start + offset ss (ahead n ss i)) (get_or (of_name n ss) i [])))

abbrev pub Sought : Text → Option Span → ℕ → ℕ → List Text → Type 0
Sought n p left start ss = from-here n start ss (left - 1) ≡ p

-- one that is there has no more segments before it than there are
inside-step : (n s : Text) (ss : List Text) (b : Bool) → named n s ≡ b → ((i : ℕ) → i < length (of_name n ss) → ahead n ss i < length ss)
    → (i : ℕ) → i < length (pick b (s ∷ of_name n ss) (of_name n ss)) → ahead n (s ∷ ss) i < suc (length ss)
unfolding ahead
inside-step n s ss true e ih zero h = rw e (omega arith)
inside-step n s ss true e ih (suc i) h = rw e (omega (arith, ih i (omega arith)))
inside-step n s ss false e ih zero h = rw e (omega (arith, ih 0 h))
inside-step n s ss false e ih (suc i) h = rw e (omega (arith, ih (suc i) h))

pub ahead-inside : (n : Text) (ss : List Text) (i : ℕ) → i < length (of_name n ss) → ahead n ss i < length ss
unfolding keep
ahead-inside n [] i h = absurd (omega arith)
ahead-inside n (s ∷ ss) i h = inside-step n s ss (named n s) refl (ahead-inside n ss) i h

first-step : (m n : Text) (i : ℕ) (b : Bool) → ltb (length (of_name n (segments m))) (suc i) ≡ b
    → ◌≡◌ {A = Option Span} (pick b None (Some (span (0 + offset (segments m) (ahead n (segments m) i)) (get_or (of_name n (segments m)) i []))))
    (pick b None (Some (span (before cr m (ahead n (segments m) i)) (get_or (of_name n (segments m)) i []))))
first-step m n i true e = refl
first-step m n i false e =
    let few = ltb-false (length (of_name n (segments m))) (suc i) e in
    let l = ahead-inside n (segments m) i (omega arith) in
    let z : 0 + offset (segments m) (ahead n (segments m) i) ≡ before cr m (ahead n (segments m) i) =
    omega (arith, before-offset m (ahead n (segments m) i) (omega arith)) in
    rw z

pub sought-first : (m n : Text) (o : ℕ) → 1 ≤ o → Sought n (standing m n o) o 0 (segments m)
sought-first m n zero h = absurd (omega arith)
sought-first m n (suc i) h =
    let e : suc i - 1 ≡ i = omega arith in
    rw e (first-step m n i (ltb (length (of_name n (segments m))) (suc i)) refl)

-- a segment of another name is passed; one of that name is counted
passed : (n s : Text) (ss : List Text) (i : ℕ) → named n s ≡ false → ahead n (s ∷ ss) i ≡ suc (ahead n ss i)
unfolding ahead
passed n s ss zero e = rw e
passed n s ss (suc i) e = rw e

module _ (n : Text) (p : Option Span) (start : ℕ) (left : ℕ) (all : List Text) (h : Sought n p left start all) where
  module _ (s : Text) (ss : List Text) (next : all ≡ s ∷ ss) (some : 1 ≤ left) (r : Bool) (read : r ≡ named n s) where
    behind : (j : ℕ) → start + (length s + 1 + offset ss j) ≡ start + length s + 1 + offset ss j
    behind j = omega arith

    other : (i : ℕ) → named n s ≡ false → from-here n start (s ∷ ss) i ≡ from-here n (start + length s + 1) ss i
    unfolding keep
    other i e = rw (passed n s ss i e, e, behind (ahead n ss i))

    another : (i : ℕ) → named n s ≡ true → from-here n start (s ∷ ss) (suc i) ≡ from-here n (start + length s + 1) ss i
    unfolding keep ahead
    another i e = rw (e, leb-suc-suc (suc (length (of_name n ss))) (suc i), behind (ahead n ss i))

    this : named n s ≡ true → from-here n start (s ∷ ss) 0 ≡ Some (record { start = start; end = start + length s })
    unfolding keep ahead
    this e =
        let z : start + 0 ≡ start = omega arith in
        rw (e, leb-suc-suc (suc (length (of_name n ss))) 0, le-ltb (length (of_name n ss)) 0 (omega arith), z)

    told : from-here n start (s ∷ ss) (left - 1) ≡ p
    told = ap (λ (l : List Text). from-here n start l (left - 1)) (sym next) ∙ h

    pub sought-other : r ≡ false → Sought n p left (start + length s + 1) ss
    sought-other e = sym (other (left - 1) (sym read ∙ e)) ∙ told

    pub sought-this : r ≡ true → left ≤ 1 → Some (record { start = start; end = start + length s }) ≡ p
    sought-this e l =
        let z : left - 1 ≡ 0 = omega arith in
        sym (this (sym read ∙ e)) ∙ ap (from-here n start (s ∷ ss)) (sym z) ∙ told

    pub sought-another : r ≡ true → 1 < left → Sought n p (left - 1) (start + length s + 1) ss
    sought-another e l =
        let z : left - 1 ≡ suc (left - 1 - 1) = omega arith in
        sym (another (left - 1 - 1) (sym read ∙ e)) ∙ ap (from-here n start (s ∷ ss)) (sym z) ∙ told

  pub sought-none : all ≡ [] → None ≡ p
  unfolding keep
  sought-none last =
      let t : ltb 0 (suc (left - 1)) ≡ true = lt-ltb 0 (suc (left - 1)) (omega arith) in
      sym (rw (last, t)) ∙ h

-- what an answer says of the occurrence
some-step : (b : Bool) (t s : Span) → Some s ≡ pick b None (Some t) → (b ≡ false) × (s ≡ t)
some-step true t s h = absurd (cc)
some-step false t s h = (refl, cc)

none-step : (b : Bool) (t : Span) → None ≡ pick b None (Some t) → b ≡ true
none-step true t h = refl
none-step false t h = absurd (cc)

pub standing-missing : (m n : Text) (o : ℕ) → None ≡ standing m n o → fewer m n o ≡ true
standing-missing m n o h = none-step (fewer m n o) (span (occurrence_start m n o) (occurrence m n o)) h

start-inside : (m n : Text) (o : ℕ) → occurrence_start m n o ≤ length m
start-inside m n zero = omega arith
start-inside m n (suc i) = before_le cr m (ahead n (segments m) i)

module _ (m n : Text) (o : ℕ) (s : Span) (h : Some s ≡ standing m n o) where
  told-parts : (fewer m n o ≡ false) × (s ≡ span (occurrence_start m n o) (occurrence m n o))
  told-parts = some-step (fewer m n o) (span (occurrence_start m n o) (occurrence m n o)) s h

  starts : s.start ≡ occurrence_start m n o
  starts = ap (λ (s : Span). s.start) told-parts.1

  ends : s.end ≡ occurrence_start m n o + length (occurrence m n o)
  ends = ap (λ (s : Span). s.end) told-parts.1

  pub standing_enough : fewer m n o ≡ false
  standing_enough = told-parts.0

  pub standing-start : occurrence_start m n o ≡ s.start
  standing-start = sym starts

  pub standing-inside : LiesIn s m
  standing-inside = (
    omega (arith, starts, ends),
    omega (arith, ends, stands_le m (occurrence_start m n o) (occurrence m n o) (start-inside m n o) (occurrence-stands m n o)),
  )

  pub standing-text : segment s m ≡ occurrence m n o
  standing-text =
      let l : s.end - s.start ≡ length (occurrence m n o) = omega (arith, starts, ends) in
      rw (l, starts) (occurrence-stands m n o)
