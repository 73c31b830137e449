-- Laws of ordered refusals.
use mathlib.Core.Path.{◌≡◌, refl, ap, ◌∙◌}
use Prim.Native.Nat.{ℕ}
use native.Mathlib.Omega.{arith}
use mathlib.Core.Bool.{Bool, true, false}
use mathlib.Core.List.{List, [], ◌∷◌, ◌++◌}
use Rattle.text.specs.Bytes.{pick}
use Rattle.text.specs.Answer.{Answer, refused, given, Test, first, passes, tell}
use Rattle.text.specs.declared.refusal.Refusal.{Refusal}
use Rattle.text.proofs.Tests.{not-true}

-- a list of tests that passes has a first one that does not apply, and a rest that passes
pub passes-rest : (b r : Bool) → pick b false r ≡ true → (b ≡ false) × (r ≡ true)
passes-rest true r e = not-true e
passes-rest false r e = (refl, e)

-- tests one after the other pass together
pub passes-both : (ts us : List Test) → passes (ts ++ us) ≡ true → (passes ts ≡ true) × (passes us ≡ true)
unfolding passes
passes-both [] us e = (refl, e)
passes-both (t ∷ ts) us e =
    let h = passes-rest t.applies (passes (ts ++ us)) e in
    let l = passes-both ts us h.1 in
    (rw h.0 l.0, l.1)

-- tests that pass in front of others leave the answer to those
pub first-passed : {A : Type 0} (ts us : List Test) (a : A) → passes ts ≡ true → first (ts ++ us) a ≡ first us a
unfolding first passes
first-passed [] us a e = refl
first-passed (t ∷ ts) us a e =
    let h = passes-rest t.applies (passes ts) e in
    rw h.0 (first-passed ts us a h.1)

pub first-given : {A : Type 0} (ts : List Test) (a : A) → passes ts ≡ true → first ts a ≡ given a
unfolding first passes
first-given [] a e = refl
first-given (t ∷ ts) a e =
    let h = passes-rest t.applies (passes ts) e in
    rw h.0 (first-given ts a h.1)

-- what tests answer by themselves decides what they answer in front of others
refused-step : {A : Type 0} (b : Bool) (x r : Refusal) (s : Answer (Unit {0})) (t : Answer A)
    → (refused r ≡ s → refused r ≡ t) → refused r ≡ pick b (refused x) s → refused r ≡ pick b (refused x) t
refused-step true x r s t h e = cc
refused-step false x r s t h e = h e

pub first-refused : {A : Type 0} (ts us : List Test) (a : A) (r : Refusal) → refused r ≡ first ts (tt {0}) → refused r ≡ first (ts ++ us) a
unfolding first
first-refused [] us a r e = absurd (let z : ◌≡◌ {A = ℕ} 0 1 = cc in omega arith)
first-refused (t ∷ ts) us a r e =
    refused-step t.applies t.refusal r (first ts tt) (first (ts ++ us) a) (first-refused ts us a r) e

given-step : {A : Type 0} (b : Bool) (x : Refusal) (s : Answer (Unit {0})) (t u : Answer A)
    → (given tt ≡ s → t ≡ u) → given tt ≡ pick b (refused x) s → t ≡ pick b (refused x) u
given-step true x s t u h e = absurd (let z : ◌≡◌ {A = ℕ} 0 1 = cc in omega arith)
given-step false x s t u h e = h e

pub first-through : {A : Type 0} (ts us : List Test) (a : A) → given (tt {0}) ≡ first ts (tt {0}) → first us a ≡ first (ts ++ us) a
unfolding first
first-through [] us a e = refl
first-through (t ∷ ts) us a e =
    given-step t.applies t.refusal (first ts tt) (first us a) (first (ts ++ us) a) (first-through ts us a) e

-- what was asked for is given as it is
asked-step : {A : Type 0} (b : Bool) (x : Refusal) (a c : A) (s : Answer A) → (given c ≡ s → c ≡ a) → given c ≡ pick b (refused x) s → c ≡ a
asked-step true x a c s h e = absurd (let z : ◌≡◌ {A = ℕ} 0 1 = cc in omega arith)
asked-step false x a c s h e = h e

pub first-asked : {A : Type 0} (ts : List Test) (a c : A) → given c ≡ first ts a → c ≡ a
unfolding first
first-asked [] a c e = cc
first-asked (t ∷ ts) a c e = asked-step t.applies t.refusal a c (first ts a) (first-asked ts a c) e

passes-step : {A : Type 0} (b p : Bool) (x : Refusal) (c : A) (s : Answer A) → (s ≡ given c → p ≡ true) → pick b (refused x) s ≡ given c → pick b false p ≡ true
passes-step true p x c s h e = absurd (let z : ◌≡◌ {A = ℕ} 0 1 = cc in omega arith)
passes-step false p x c s h e = h e

-- and only where no refusal applies
pub given-passes : {A : Type 0} (ts : List Test) (a c : A) → first ts a ≡ given c → passes ts ≡ true
unfolding first passes
given-passes [] a c e = refl
given-passes (t ∷ ts) a c e = passes-step t.applies (passes ts) t.refusal c (first ts a) (given-passes ts a c) e

-- where a refusal is told, it is the answer
pub told-refused : {A B : Type 0} (f : A → B) (a : Answer A) (r : Refusal) → refused r ≡ tell f a → a ≡ refused r
told-refused f (refused s) r e = cc
told-refused f (given x) r e = absurd (let z : ◌≡◌ {A = ℕ} 0 1 = cc in omega arith)

tell-step : {A B : Type 0} (f : A → B) (b : Bool) (x y : Answer A) → tell f (pick b x y) ≡ pick b (tell f x) (tell f y)
tell-step f true x y = refl
tell-step f false x y = refl

-- what is told of the first refusal or the answer is that refusal, or what is told of the answer
pub tell-first : {A B : Type 0} (f : A → B) (ts : List Test) (a : A) → tell f (first ts a) ≡ first ts (f a)
unfolding first
tell-first f [] a = refl
tell-first f (t ∷ ts) a =
    tell-step f t.applies (refused t.refusal) (first ts a)
    ∙ ap (λ (r : Answer _). pick t.applies (refused t.refusal) r) (tell-first f ts a)
