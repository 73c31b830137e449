-- Laws of texts written into a buffer.
use mathlib.Core.Path.{◌≡◌, refl, sym, ap, subst, ◌∙◌}
use Prim.Native.Nat.{ℕ, suc, ◌+◌, ◌≤◌, ◌<◌}
use native.Mathlib.Numerals.{add-one}
use native.Mathlib.Nat.{add-zero, zero-add, add_assoc}
use native.Mathlib.Omega.{arith}
use mathlib.Core.List.{[], ◌∷◌, ◌++◌, append_assoc, append-nil}
use lib.ListN.{length, take, drop, set, length-append, length-drop, take-append-drop, get_or}
use lib.Seq.{length-take-le, take_at, take-append-le, take-take, drop_at, drop-append-add, drop-drop, set_split, append_snoc, take-suc}
use Rattle.text.specs.Bytes.{Text}
use Rattle.text.specs.Puts.{Puts}

module _ {before : Text} {at : ℕ} {a mid : Text} {k : ℕ} (p : Puts before at a mid k) where
  -- what stands before the end
  head : length (take at before ++ a) ≡ k
  head = length-append (take at before) a ∙ omega (arith, length-take-le at before (omega (arith, p.room)), p.ends)

  -- the length is kept
  pub puts-length : length mid ≡ length before
  puts-length =
      ap length p.holds
      ∙ (length-append (take at before ++ a) (drop (at + length a) before)
      ∙ omega (arith, head, length-drop (at + length a) before, p.room, p.ends))

  pub puts-head : take k mid ≡ take at before ++ a
  puts-head =
      ap (take k) p.holds ∙ take_at (take at before ++ a) (drop (at + length a) before) k head

  -- what stands after the end is what stood there
  pub puts-rest : (n : ℕ) → drop (k + n) mid ≡ drop (at + length a + n) before
  puts-rest n =
      ap (drop (k + n)) p.holds
      ∙ rw (← head) (drop-append-add (take at before ++ a) (drop (at + length a) before) n ∙ drop-drop n (at + length a) before)

-- nothing written
pub puts_none : (before : Text) (at : ℕ) → at ≤ length before → Puts before at [] before at
puts_none before at h = record { room = omega arith; holds = rw (append-nil, add-zero) (sym (take-append-drop at before)); ends = omega arith }

-- one byte written
pub puts_one : (before : Text) (at x : ℕ) → at < length before → Puts before at (x ∷ []) (set before at x) (at + 1)
puts_one before at x h =
    record {
      room = omega arith;
      holds = set_split before at x h ∙ rw (add-one at) (sym (append_snoc (take at before) x (drop (suc at) before)));
      ends = refl;
    }

-- one text after another is the two written as one
pub puts-both : {before : Text} {at : ℕ} {a mid : Text} {k : ℕ} {b after : Text} {r : ℕ}
    → Puts before at a mid k → Puts mid k b after r → Puts before at (a ++ b) after r
puts-both {before} {at} {a} {mid} {k} {b} {after} {r} p q =
    let l = length-append a b in
    let m = puts-length p in
    record {
      room = omega (arith, l, m, p.ends, q.room);
      holds =
          q.holds
          ∙ rw (puts-head p, puts-rest p (length b), append_assoc (take at before) a b, l, add_assoc);
      ends = omega (arith, l, p.ends, q.ends);
    }

-- one byte after a text
pub puts-more : {before : Text} {at : ℕ} {t mid : Text} {k : ℕ} (j x : ℕ) → k ≡ j → j < length before → Puts before at t mid k
    → Puts before at (t ++ x ∷ []) (set mid j x) (j + 1)
puts-more {before} {at} {t} {mid} j x e h p =
    puts-both (subst (λ (n : ℕ). Puts before at t mid n) e p) (puts_one mid j x (omega (arith, puts-length p)))

-- one byte before a text
pub puts-before : {before : Text} {k : ℕ} {t mid : Text} {r : ℕ} (j x : ℕ) → k ≡ j + 1 → Puts before k t mid r → Puts before j (x ∷ t) (set mid j x) r
puts-before {before} {k} {t} {mid} {r} j x e p =
    let n : k ≡ suc j = omega arith in
    let front = take k before in
    let rest = t ++ drop (k + length t) before in
    let long = length-take-le k before (omega (arith, p.room)) in
    let held : mid ≡ front ++ rest = p.holds ∙ append_assoc front t (drop (k + length t) before) in
    let head : take j mid ≡ take j before = ap (take j) held ∙ (take-append-le j front rest (omega (arith, long)) ∙ take-take j k before (omega arith)) in
    let tail : drop (suc j) mid ≡ rest = ap (drop (suc j)) held ∙ drop_at front rest (suc j) (long ∙ n) in
    let more : k + length t ≡ j + suc (length t) = omega arith in
    record {
      room = omega (arith, p.room);
      holds =
          set_split mid j x (omega (arith, puts-length p, p.room))
          ∙ (rw (head, tail, more) (sym (append_assoc (take j before) (x ∷ t) (drop (j + suc (length t)) before))));
      ends = omega (arith, p.ends);
    }

-- one byte more of a text
pub puts-on : {before : Text} {at : ℕ} (t : Text) (i : ℕ) {mid : Text} {k : ℕ}
    → i < length t → k < length mid → Puts before at (take i t) mid k → Puts before at (take (i + 1) t) (set mid k (get_or t i 0)) (k + 1)
puts-on {before} {at} t i {mid} {k} h l p =
    rw (add-one i, take-suc t i 0) (puts-both p (puts_one mid k (get_or t i 0) l))

-- a text written to the front
module _ {before t after : Text} {r : ℕ} (p : Puts before 0 t after r) where
  pub puts-front-room : length t ≤ length before
  puts-front-room = omega (arith, p.room)

  pub puts-front-ends : r ≡ length t
  puts-front-ends = omega (arith, p.ends)

  pub puts-front : after ≡ t ++ drop (length t) before
  puts-front = p.holds ∙ rw (zero-add (length t))
