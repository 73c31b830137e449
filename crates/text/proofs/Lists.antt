-- Laws of tests over lists.
use mathlib.Core.Path.{◌≡◌, refl, sym, ap, ◌∙◌}
use Prim.Native.Nat.{ℕ, zero, suc, ◌+◌, ◌-◌, ◌≤◌, ◌<◌}
use native.Mathlib.Numerals.{add-one}
use native.Mathlib.Omega.{arith}
use native.Mathlib.Nat.{sub-zero, zero-sub, suc-sub-suc}
use lib.ListN.{length, get_or, take, drop, replicate, drop_of_length-le, length-drop}
use lib.Seq.{drop-cons, take_all, take-nil}
use mathlib.Core.Bool.{Bool, true, false, not, ◌&&◌, ◌||◌}
use mathlib.Core.List.{List, [], ◌∷◌, ◌++◌, map, flat_map}
use Rattle.text.specs.Bytes.{pick, empty, every, some, keep}
use Rattle.text.proofs.Tests.{not-true, both}

pub and_both : (a b : Bool) → a ≡ true → b ≡ true → a && b ≡ true
and_both a b e f = rw (e, f)

pub or_left : (a b : Bool) → a ≡ true → a || b ≡ true
or_left a b e = rw e

pub or_right : (a b : Bool) → b ≡ true → a || b ≡ true
or_right true b e = refl
or_right false b e = e

-- one of the two holds: told by what follows from each
pub or_either : {C : Type 0} (a b : Bool) → (a ≡ true → C) → (b ≡ true → C) → a || b ≡ true → C
or_either true b f g e = f refl
or_either false b f g e = g e

pub or-none : (a b : Bool) → a || b ≡ false → (a ≡ false) × (b ≡ false)
or-none true b e = absurd (let z : ◌≡◌ {A = Bool} false true = cc in not-true z)
or-none false b e = (refl, e)

pub and_assoc : (a b c : Bool) → a && b && c ≡ a && (b && c)
and_assoc true b c = refl
and_assoc false b c = refl

pub and-true : (b : Bool) → b && true ≡ b
and-true true = refl
and-true false = refl

pub or_assoc : (a b c : Bool) → a || b || c ≡ a || (b || c)
or_assoc true b c = refl
or_assoc false b c = refl

pub or-false : (b : Bool) → b || false ≡ b
or-false true = refl
or-false false = refl

-- a test of every byte, a byte further and at the end
pub every-step : (f : ℕ → Bool) (t : List ℕ) (i : ℕ) (b : Bool) → i < length t → f (get_or t i 0) ≡ b → every f (drop i t) ≡ b && every f (drop (i + 1) t)
unfolding every
every-step f t i b h e = rw (add-one, drop-cons t i 0 h, e)

pub every-seen : (f : ℕ → Bool) (t : List ℕ) (i : ℕ) (ok r all : Bool) → i < length t → r ≡ f (get_or t i 0)
    → ok && every f (drop i t) ≡ all → ok && r && every f (drop (i + 1) t) ≡ all
every-seen f t i ok r all h e seen =
    rw e
    (and_assoc ok (f (get_or t i 0)) (every f (drop (i + 1) t))
    ∙ ap (λ (b : Bool). ok && b) (sym (every-step f t i (f (get_or t i 0)) h refl))
    ∙ seen)

pub every-end : (f : ℕ → Bool) (t : List ℕ) (i : ℕ) → length t ≤ i → every f (drop i t) ≡ true
unfolding every
every-end f t i h = rw (drop_of_length-le t h)

module _ {A : Type 0} where
  -- something holds of each member
  abbrev pub All : (A → Type 0) → List A → Type 0
  All P [] = Unit
  All P (x ∷ xs) = P x × All P xs

  pub all_map : (P Q : A → Type 0) → ((x : A) → P x → Q x) → (l : List A) → All P l → All Q l
  all_map P Q h [] a = tt
  all_map P Q h (x ∷ l) a = (h x a.0, all_map P Q h l a.1)

  pub all_append : (P : A → Type 0) (l r : List A) → All P l → All P r → All P (l ++ r)
  all_append P [] r a b = b
  all_append P (x ∷ l) r a b = (a.0, all_append P l r a.1 b)

  keep-all-step : (P : A → Type 0) (x : A) (l : List A) (b : Bool) → P x → All P l → All P (pick b (x ∷ l) l)
  keep-all-step P x l true p a = (p, a)
  keep-all-step P x l false p a = a

  pub all_keep : (P : A → Type 0) (f : A → Bool) (l : List A) → All P l → All P (keep f l)
  unfolding keep
  all_keep P f [] a = tt
  all_keep P f (x ∷ l) a = keep-all-step P x (keep f l) (f x) a.0 (all_keep P f l a.1)

  -- the members kept pass the test
  kept_step : (f : A → Bool) (x : A) (l : List A) (b : Bool) → f x ≡ b → All (λ y. f y ≡ true) l → All (λ y. f y ≡ true) (pick b (x ∷ l) l)
  kept_step f x l true e a = (e, a)
  kept_step f x l false e a = a

  pub all-kept : (f : A → Bool) (l : List A) → All (λ x. f x ≡ true) (keep f l)
  unfolding keep
  all-kept f [] = tt
  all-kept f (x ∷ l) = kept_step f x (keep f l) (f x) refl (all-kept f l)

  pub all_both : (P Q : A → Type 0) (l : List A) → All P l → All Q l → All (λ x. P x × Q x) l
  all_both P Q [] a b = tt
  all_both P Q (x ∷ l) a b = ((a.0, b.0), all_both P Q l a.1 b.1)

  pub every-all : (f : A → Bool) (l : List A) → every f l ≡ true → All (λ x. f x ≡ true) l
  unfolding every
  every-all f [] e = tt
  every-all f (x ∷ l) e = let h = both (f x) (every f l) e in (h.0, every-all f l h.1)

  pub some-append-left : (f : A → Bool) (l r : List A) → some f l ≡ true → some f (l ++ r) ≡ true
  unfolding some
  some-append-left f [] r e = not-true e
  some-append-left f (x ∷ l) r e =
      or_either (f x) (some f l) (λ h. or_left (f x) (some f (l ++ r)) h)
      (λ h. or_right (f x) (some f (l ++ r)) (some-append-left f l r h)) e

  pub some_append_right : (f : A → Bool) (l r : List A) → some f r ≡ true → some f (l ++ r) ≡ true
  unfolding some
  some_append_right f [] r e = e
  some_append_right f (x ∷ l) r e = or_right (f x) (some f (l ++ r)) (some_append_right f l r e)

  pub some_mono : (f g : A → Bool) → ((x : A) → f x ≡ true → g x ≡ true) → (l : List A) → some f l ≡ true → some g l ≡ true
  unfolding some
  some_mono f g h [] e = e
  some_mono f g h (x ∷ l) e =
      or_either (f x) (some f l) (λ k. or_left (g x) (some g l) (h x k)) (λ k. or_right (g x) (some g l) (some_mono f g h l k)) e

  -- lists made member by member in two ways that agree
  pub map_same : {B : Type 0} (f g : A → B) (l : List A) → All (λ x. f x ≡ g x) l → map f l ≡ map g l
  map_same f g [] a = refl
  map_same f g (x ∷ l) a = rw (a.0, map_same f g l a.1)

  pub flat_map-same : {B : Type 0} (f g : A → List B) (l : List A) → All (λ x. f x ≡ g x) l → flat_map f l ≡ flat_map g l
  unfolding flat_map
  flat_map-same f g [] a = refl
  flat_map-same f g (x ∷ l) a = rw (a.0, flat_map-same f g l a.1)

pub all-flat_map : {A B : Type 0} (P : B → Type 0) (f : A → List B) (l : List A) → All (λ x. All P (f x)) l → All P (flat_map f l)
unfolding flat_map
all-flat_map P f [] a = tt
all-flat_map P f (x ∷ l) a = all_append P (f x) (flat_map f l) a.0 (all-flat_map P f l a.1)

-- a member kept, and a test on what it is made into
some-here : {A B : Type 0} (g : B → Bool) (f : A → List B) (x : A) (l : List A) (b : Bool) → b ≡ true → some g (f x) ≡ true
    → some g (flat_map f (pick b (x ∷ l) l)) ≡ true
unfolding flat_map
some-here g f x l b e h = rw e (some-append-left g (f x) (flat_map f l) h)

some-later : {A B : Type 0} (g : B → Bool) (f : A → List B) (x : A) (l : List A) (b : Bool) → some g (flat_map f l) ≡ true
    → some g (flat_map f (pick b (x ∷ l) l)) ≡ true
unfolding flat_map
some-later g f x l true h = some_append_right g (f x) (flat_map f l) h
some-later g f x l false h = h

pub some-flat_map : {A B : Type 0} (k : A → Bool) (g : B → Bool) (f : A → List B) (l : List A)
    → some (λ x. k x && some g (f x)) l ≡ true → some g (flat_map f (keep k l)) ≡ true
unfolding some keep flat_map
some-flat_map k g f [] e = e
some-flat_map k g f (x ∷ l) e =
    or_either (k x && some g (f x)) (some (λ y. k y && some g (f y)) l)
    (λ h. some-here g f x (keep k l) (k x) (both (k x) (some g (f x)) h).0 (both (k x) (some g (f x)) h).1)
    (λ h. some-later g f x (keep k l) (k x) (some-flat_map k g f l h))
    e

module _ {A : Type 0} (p : A → Bool) where
  -- what holds of each member holds of those further on, of the first ones, and of the one at an index
  pub every_drop : (i : ℕ) (l : List A) → every p l ≡ true → every p (drop i l) ≡ true
  unfolding every
  every_drop zero l e = e
  every_drop (suc i) [] e = e
  every_drop (suc i) (x ∷ l) e = every_drop i l (both (p x) (every p l) e).1

  pub every_take : (i : ℕ) (l : List A) → every p l ≡ true → every p (take i l) ≡ true
  unfolding every
  every_take zero l e = refl
  every_take (suc i) [] e = refl
  every_take (suc i) (x ∷ l) e =
      let h = both (p x) (every p l) e in
      and_both (p x) (every p (take i l)) h.0 (every_take i l h.1)

  pub every-at : (l : List A) (i : ℕ) (d : A) → i < length l → every p l ≡ true → p (get_or l i d) ≡ true
  unfolding every
  every-at [] i d h e = absurd (omega arith)
  every-at (x ∷ l) zero d h e = (both (p x) (every p l) e).0
  every-at (x ∷ l) (suc i) d h e = every-at l i d (omega arith) (both (p x) (every p l) e).1

-- the part of a list from a place to the end, as code takes it
pub part-rest : {A : Type 0} (a : ℕ) (t : List A) → take (length t - a) (drop a t) ≡ drop a t
part-rest a t = take_all (length t - a) (drop a t) (simp length-drop (omega arith))

module _ {A : Type 0} where
  -- the first ones of a list, further on
  pub drop-take : (k n : ℕ) (l : List A) → drop k (take n l) ≡ take (n - k) (drop k l)
  drop-take zero n l = rw sub-zero
  drop-take (suc k) zero l = rw zero-sub
  drop-take (suc k) (suc n) [] = rw (take-nil (suc n - suc k))
  drop-take (suc k) (suc n) (x ∷ l) = rw suc-sub-suc (drop-take k n l)

  -- the same member over and over, further on
  pub drop_replicate : (x : A) (k n : ℕ) → drop k (replicate n x) ≡ replicate (n - k) x
  drop_replicate x zero n = rw (sub-zero n)
  drop_replicate x (suc k) zero = rw (zero-sub (suc k))
  drop_replicate x (suc k) (suc n) = rw (suc-sub-suc n k) (drop_replicate x k n)

  keep-most-step : (x : A) (k l : List A) (b : Bool) → length k ≤ length l → length (pick b (x ∷ k) k) ≤ suc (length l)
  keep-most-step x k l true h = omega arith
  keep-most-step x k l false h = omega arith

  -- a test keeps no more members than there are
  pub keep-most : (f : A → Bool) (l : List A) → length (keep f l) ≤ length l
  unfolding keep
  keep-most f [] = omega arith
  keep-most f (x ∷ l) = keep-most-step x (keep f l) l (f x) (keep-most f l)

module _ {A : Type 0} where
  -- a member: of a test that it passes, some member passes it
  abbrev pub Member : List A → A → Type 0
  Member l x = (h : A → Bool) → h x ≡ true → some h l ≡ true

  member-more : (y : A) (l : List A) (x : A) → Member l x → Member (y ∷ l) x
  unfolding some
  member-more y l x t h e = or_right (h y) (some h l) (t h e)

  member-here : (x : A) (l : List A) → Member (x ∷ l) x
  unfolding some
  member-here x l h e = or_left (h x) (some h l) e

  pub all_members : (l : List A) → All (Member l) l
  all_members [] = tt
  all_members (x ∷ l) =
      (member-here x l, all_map (Member l) (Member (x ∷ l)) (λ y. member-more x l y) l (all_members l))

  some-kept-step : (k : A → Bool) (x : A) (l : List A) (b r : Bool) → k x ≡ b → (r ≡ true → not (empty (keep k l)) ≡ true)
      → b || r ≡ true → not (empty (pick b (x ∷ keep k l) (keep k l))) ≡ true
  some-kept-step k x l true r e ih h = refl
  some-kept-step k x l false r e ih h = ih h

  -- where some member passes a test, one is kept
  pub some-kept : (k : A → Bool) (l : List A) → some k l ≡ true → not (empty (keep k l)) ≡ true
  unfolding some keep
  some-kept k [] e = e
  some-kept k (x ∷ l) e = some-kept-step k x l (k x) (some k l) refl (some-kept k l) e

-- how many members two tests keep that never hold together
module _ {A : Type 0} (f g : A → Bool) (apart : (x : A) → f x ≡ true → g x ≡ false) where
  apart-step : (x : A) (k l r : List A) (b c : Bool) → (b ≡ true → c ≡ false) → length k + length l ≤ length r
      → length (pick b (x ∷ k) k) + length (pick c (x ∷ l) l) ≤ length (pick (b || c) (x ∷ r) r)
  apart-step x k l r true c e h = rw (e refl) (omega arith)
  apart-step x k l r false true e h = omega arith
  apart-step x k l r false false e h = h

  pub keep_apart : (l : List A) → length (keep f l) + length (keep g l) ≤ length (keep (λ x. f x || g x) l)
  unfolding keep
  keep_apart [] = omega arith
  keep_apart (x ∷ l) = apart-step x (keep f l) (keep g l) (keep (λ y. f y || g y) l) (f x) (g x) (apart x) (keep_apart l)
