-- Laws of escapes: what a reader from the left finds at the end, at a byte that is no \, and at a \.
use mathlib.Core.Path.{◌≡◌, refl, sym, ap, subst, ◌∙◌}
use Rattle.std.proofs.Common.{Option, Some, None, ok_or, Result, Ok, Err}
use Prim.Native.Nat.{ℕ, zero, suc, ◌+◌, ◌*◌, ◌-◌, ◌≤◌, ◌<◌}
use native.Mathlib.Numerals.{add-one}
use native.Mathlib.Omega.{arith}
use mathlib.Core.Bool.{Bool, true, false, not, ◌&&◌, ◌||◌}
use mathlib.Core.List.{[], ◌∷◌, ◌++◌, append-nil}
use lib.ListN.{length, length-append, length-drop, get_or, take, drop, length-map, drop_of_length-le}
use lib.Seq.{drop-cons, drop-drop, get_or-drop, append_snoc}
use lib.Dec.{eqb, ltb}
use borrow.Author.Tests.{eq-eqb, ne_eqb, lt-ltb, le-ltb}
use borrow.Author.Tests.{not-true as not_taken}
use Rattle.text.specs.Bytes.{Text, pick, byte, empty, same, every, some}
use Rattle.text.specs.Answer.{Answer, refused, given, test, first, buffer_after, reported, written_of}
use Rattle.text.specs.Marks.{usual}
use Rattle.escape.specs.Escape.{five, is_escape, stands_for, stops, bad_escape, resolved, resolve}
use Rattle.escape.specs.Step.{is_other, is_letter, meant, Reads}
use Rattle.escape.specs.Promise.{Resolves}
use Rattle.escape.specs.Length.{Measures}
use Rattle.text.specs.Puts.{Puts}
use Rattle.text.specs.Writes.{Writes}
use Rattle.text.specs.declared.writer.Writer.{Writer}
use Rattle.text.specs.declared.marks.Marks.{Marks}
use Rattle.text.specs.declared.refusal.Refusal.{Refusal}
use Rattle.text.specs.declared.refusal.Refusal.TheVariants.{NoRoom, BadEscape}
use Rattle.text.proofs.Tests.{not-true, both, and-false, picks}
use Rattle.text.proofs.Lists.{or-false, and-true, part-rest}
use Rattle.text.proofs.Writes.{writes-both, writes-length}
use Rattle.text.proofs.Puts.{puts_none, puts-front-room, puts-front-ends, puts-front}

or-and : (a b x : Bool) → (a && x) || (b && x) ≡ (a || b) && x
or-and true b true = refl
or-and true true false = refl
or-and true false false = refl
or-and false b x = refl

-- 1. What begins at the front of a text: a \, one of five letters, and a second \
escape-step : (x f s t r e y : Bool)
    → (x && (f && y)) || ((x && (s && y)) || ((x && (t && y)) || ((x && (r && y)) || ((x && (e && y)) || false))))
    ≡ x && ((f || (s || (t || (r || e)))) && y)
escape-step true f s t r e y =
    rw (or-false (e && y), or-and r e y, or-and t (r || e) y, or-and s (t || (r || e)) y, or-and f (s || (t || (r || e))) y)
escape-step false f s t r e y = refl

stands-step : (f s t r e : Bool) (a b c d x z : ℕ) → f || (s || (t || (r || e))) ≡ true
    → pick (f && true) a (pick (s && true) b (pick (t && true) c (pick (r && true) d (pick (e && true) x z))))
    ≡ pick f a (pick s b (pick t c (pick r d x)))
stands-step true s t r e a b c d x z h = refl
stands-step false true t r e a b c d x z h = refl
stands-step false false true r e a b c d x z h = refl
stands-step false false false true e a b c d x z h = refl
stands-step false false false false true a b c d x z h = refl
stands-step false false false false false a b c d x z h = not-true h

module _ (q : Marks) where
  escape-front : (b c d : ℕ) (t : Text) → is_escape q (b ∷ c ∷ d ∷ t) ≡ eqb b q.escape && (is_letter c && eqb d q.escape)
  unfolding is_escape some same
  escape-front b c d t =
      rw (and-true (eqb d q.escape))
      (escape-step (eqb b q.escape) (eqb c (byte "F")) (eqb c (byte "S")) (eqb c (byte "T")) (eqb c (byte "R")) (eqb c (byte "E")) (eqb d q.escape))

  escape-few : (t : Text) → length t < 3 → is_escape q t ≡ false
  unfolding is_escape some same
  escape-few [] h = refl
  escape-few (b ∷ []) h = simp and-false
  escape-few (b ∷ c ∷ []) h = simp and-false
  escape-few (b ∷ c ∷ d ∷ t) h = absurd (omega arith)

  escape-stands : (b c d : ℕ) (t : Text) → is_escape q (b ∷ c ∷ d ∷ t) ≡ true → stands_for q (five q) (b ∷ c ∷ d ∷ t) ≡ meant q c
  unfolding stands_for same
  escape-stands b c d t e =
      let h = both (eqb b q.escape) (is_letter c && eqb d q.escape) (sym (escape-front b c d t) ∙ e) in
      let k = both (is_letter c) (eqb d q.escape) h.1 in
      rw (h.0, k.1)
      (stands-step (eqb c (byte "F")) (eqb c (byte "S")) (eqb c (byte "T")) (eqb c (byte "R")) (eqb c (byte "E")) q.field q.component q.subcomponent
      q.repetition
      q.escape
      b
      k.0)

  -- a byte that is no \ begins none, and stands for itself
  byte-none : (b : ℕ) (t : Text) → eqb b q.escape ≡ false → is_escape q (b ∷ t) ≡ false
  unfolding is_escape some same
  byte-none b t h = rw h

  byte-stands : (b : ℕ) (t : Text) → eqb b q.escape ≡ false → stands_for q (five q) (b ∷ t) ≡ b
  unfolding stands_for same
  byte-stands b t h = rw h

  -- 2. Where the reader goes on
  over_drop : (n : ℕ) (t : Text) → stops q n t ≡ stops q 0 (drop n t)
  unfolding stops
  over_drop zero t = refl
  over_drop (suc n) [] = refl
  over_drop (suc n) (b ∷ t) = over_drop n t

  bad-step : (b : ℕ) (t : Text) (x y : Bool) → eqb b q.escape ≡ x → is_escape q (b ∷ t) ≡ y
      → bad_escape q (b ∷ t) ≡ (x && not y) || bad_escape q (drop (pick y 2 0) t)
  unfolding bad_escape stops some
  bad-step b t x y h e = rw (h, e, over_drop (pick y 2 0) t)

  resolved_step : (b : ℕ) (t : Text) (y : Bool) (c : ℕ) → is_escape q (b ∷ t) ≡ y → stands_for q (five q) (b ∷ t) ≡ c
      → resolved q (b ∷ t) ≡ c ∷ resolved q (drop (pick y 2 0) t)
  unfolding resolved stops
  resolved_step b t y c e s = rw (e, s, over_drop (pick y 2 0) t)

  -- no bytes have no bad escape, and resolve to none
  pub bad-none : bad_escape q [] ≡ false
  unfolding bad_escape stops some
  bad-none = refl

  pub resolved-none : resolved q [] ≡ []
  unfolding resolved stops
  resolved-none = refl

  byte-bad : (b : ℕ) (t : Text) → eqb b q.escape ≡ false → bad_escape q (b ∷ t) ≡ bad_escape q t
  byte-bad b t h = bad-step b t false false h (byte-none b t h)

  byte-resolved : (b : ℕ) (t : Text) → eqb b q.escape ≡ false → resolved q (b ∷ t) ≡ b ∷ resolved q t
  byte-resolved b t h = resolved_step b t false b (byte-none b t h) (byte-stands b t h)

  -- a text with no \ has no bad escape
  pub free_good : (t : Text) → every (is_other q.escape) t ≡ true → bad_escape q t ≡ false
  unfolding every
  free_good [] e = bad-none
  free_good (b ∷ t) e =
      let h = both (is_other q.escape b) (every (is_other q.escape) t) e in
      byte-bad b t (not_taken (eqb b q.escape) h.0) ∙ free_good t h.1

  -- and reads as it is written
  pub free_resolved : (t : Text) → every (is_other q.escape) t ≡ true → resolved q t ≡ t
  unfolding every
  free_resolved [] e = resolved-none
  free_resolved (b ∷ t) e =
      let h = both (is_other q.escape b) (every (is_other q.escape) t) e in
      byte-resolved b t (not_taken (eqb b q.escape) h.0) ∙ ap (◌∷◌ b) (free_resolved t h.1)

-- what a person reads first: a byte that is no \ stands for itself; an escape is passed over whole; another \ is bad
module _ (q : Marks) where
  pub reads_byte : (b : ℕ) (t : Text) → (b ≡ q.escape → ⊥) → Reads q (b ∷ t) b t
  reads_byte b t e =
      let f = ne_eqb b q.escape e in
      record { shorter = omega arith; bad = byte-bad q b t f; reads = byte-resolved q b t f }

  -- the same, by the bytes that are looked at
  pub first_byte : (t : Text) → 1 ≤ length t → (get_or t 0 0 ≡ q.escape → ⊥) → Reads q t (get_or t 0 0) (take (length t - 1) (drop 1 t))
  first_byte [] h e = absurd (omega arith)
  first_byte (b ∷ t) h e = rw part-rest (reads_byte b t e)

  reads_escape : (b c d e : ℕ) (t : Text) (l : Bool) → is_escape q (b ∷ c ∷ d ∷ t) ≡ l → l ≡ true → meant q c ≡ e → Reads q (b ∷ c ∷ d ∷ t) e t
  reads_escape b c d e t l f g h =
      let k = f ∙ g in
      record {
        shorter = omega arith;
        bad = bad-step q b (c ∷ d ∷ t) (eqb b q.escape) true refl k ∙ rw (and-false (eqb b q.escape));
        reads = resolved_step q b (c ∷ d ∷ t) true e k (escape-stands q b c d t k ∙ h);
      }

  letter-some : (l : Bool) (m b : ℕ) → Some b ≡ pick l (Some m) None → (l ≡ true) × (m ≡ b)
  letter-some true m b e = (refl, cc)
  letter-some false m b e = cc

  letter-none : (l : Bool) (m : ℕ) → None ≡ pick l (Some m) None → l ≡ false
  letter-none true m e = cc
  letter-none false m e = refl

  -- no escape begins there
  pub first_bad : (t : Text) → 1 ≤ length t → get_or t 0 0 ≡ q.escape → is_escape q t ≡ false → bad_escape q t ≡ not (empty t)
  first_bad [] h f e = absurd (omega arith)
  first_bad (b ∷ t) h f e = bad-step q b t true false (eq-eqb b q.escape f) e

  pub first_none : (t : Text) → length t < 1 → bad_escape q t ≡ not (empty t)
  first_none [] h = bad-none q
  first_none (b ∷ t) h = absurd (omega arith)

  pub first_few : (t : Text) → 1 ≤ length t → length t < 3 → get_or t 0 0 ≡ q.escape → bad_escape q t ≡ not (empty t)
  first_few t h k f = first_bad t h f (escape-few q t k)

  -- three bytes
  pub first_escape : (t : Text) (b : ℕ) → 3 ≤ length t → get_or t 0 0 ≡ q.escape → get_or t 2 0 ≡ q.escape
      → Some b ≡ pick (is_letter (get_or t 1 0)) (Some (meant q (get_or t 1 0))) None → Reads q t b (take (length t - 3) (drop 3 t))
  first_escape [] e h f g m = absurd (omega arith)
  first_escape (b ∷ []) e h f g m = absurd (omega arith)
  first_escape (b ∷ c ∷ []) e h f g m = absurd (omega arith)
  first_escape (b ∷ c ∷ d ∷ t) e h f g m =
      let l = letter-some (is_letter c) (meant q c) e m in
      rw part-rest (reads_escape b c d e t _ (escape-front q b c d t) (rw (eq-eqb b q.escape f, eq-eqb d q.escape g, l.0) refl) l.1)

  pub first_other : (t : Text) → 3 ≤ length t → get_or t 0 0 ≡ q.escape
      → None ≡ pick (is_letter (get_or t 1 0)) (Some (meant q (get_or t 1 0))) None → bad_escape q t ≡ not (empty t)
  first_other [] h f m = absurd (omega arith)
  first_other (b ∷ []) h f m = absurd (omega arith)
  first_other (b ∷ c ∷ []) h f m = absurd (omega arith)
  first_other (b ∷ c ∷ d ∷ t) h f m =
      first_bad (b ∷ c ∷ d ∷ t) (omega arith) f
      (escape-front q b c d t ∙ rw (letter-none (is_letter c) (meant q c) m) (and-false (eqb b q.escape)))

  pub first_open : (t : Text) → 3 ≤ length t → get_or t 0 0 ≡ q.escape → (get_or t 2 0 ≡ q.escape → ⊥) → bad_escape q t ≡ not (empty t)
  first_open [] h f g = absurd (omega arith)
  first_open (b ∷ []) h f g = absurd (omega arith)
  first_open (b ∷ c ∷ []) h f g = absurd (omega arith)
  first_open (b ∷ c ∷ d ∷ t) h f g =
      first_bad (b ∷ c ∷ d ∷ t) (omega arith) f
      (escape-front q b c d t ∙ rw (ne_eqb d q.escape g, and-false (is_letter c)) (and-false (eqb b q.escape)))

  -- in a text with no bad escape a \ at its front begins an escape
  read_good : (t : Text) → 1 ≤ length t → get_or t 0 0 ≡ q.escape → bad_escape q t ≡ false → (y : Bool) → is_escape q t ≡ y
      → (3 ≤ length t) × ((is_letter (get_or t 1 0) ≡ true) × Reads q t (meant q (get_or t 1 0)) (drop 3 t))
  read_good [] h e g y k = absurd (omega arith)
  read_good (b ∷ t) h e g false k = not-true (sym g ∙ first_bad (b ∷ t) h e k)
  read_good (b ∷ []) h e g true k = not-true (sym (escape-few q (b ∷ []) (omega arith)) ∙ k)
  read_good (b ∷ c ∷ []) h e g true k = not-true (sym (escape-few q (b ∷ c ∷ []) (omega arith)) ∙ k)
  read_good (b ∷ c ∷ d ∷ t) h e g true k =
      let l = both (eqb b q.escape) (is_letter c && eqb d q.escape) (sym (escape-front q b c d t) ∙ k) in
      (omega arith, ((both (is_letter c) (eqb d q.escape) l.1).0, reads_escape b c d (meant q c) t true k refl refl))

-- the same at a place of the text
module _ (q : Marks) (t : Text) (i : ℕ) where
  pub byte_there : i < length t → (get_or t i 0 ≡ q.escape → ⊥) → Reads q (drop i t) (get_or t i 0) (drop (i + 1) t)
  byte_there h e = rw (add-one i, drop-cons t i 0 h) (reads_byte q (get_or t i 0) (drop (suc i) t) e)

  pub escape_there : i < length t → get_or t i 0 ≡ q.escape → bad_escape q (drop i t) ≡ false
      → (i + 3 ≤ length t) × ((is_letter (get_or t (i + 1) 0) ≡ true) × Reads q (drop i t) (meant q (get_or t (i + 1) 0)) (drop (i + 3) t))
  escape_there h e g =
      let z : i + 0 ≡ i = omega arith in
      let first : get_or (drop i t) 0 0 ≡ q.escape = get_or-drop i t 0 0 ∙ (ap (λ (k : ℕ). get_or t k 0) z ∙ e) in
      let r = read_good q (drop i t) (simp length-drop (omega arith)) first g (is_escape q (drop i t)) refl in (
        omega (arith, simp length-drop at r.0),
        (rw (get_or-drop i t 1 0) at r.1.0, rw (drop-drop 3 i t, get_or-drop i t 1 0) at r.1.1),
      )

  pub nothing_there : length t ≤ i → bad_escape q (drop i t) ≡ not (empty (drop i t))
  nothing_there h = rw (drop_of_length-le t h) (bad-none q)

-- n bytes of the resolved text are counted, no bad escape was met, and the rest is still to be read
pub record Counted (q : Marks) (t : Text) (n : ℕ) (rest : Text) : Type 0 where
  pub fewer : n + length rest ≤ length t
  pub bad : bad_escape q rest ≡ bad_escape q t
  pub told : n + length (resolved q rest) ≡ length (resolved q t)

module _ (q : Marks) (t : Text) where
  -- where nothing is left, all are counted
  pub counted-all : (n : ℕ) (rest : Text) → length rest ≡ 0 → Counted q t n rest → Measures q t (Some n)
  counted-all n [] e c = (sym c.bad ∙ bad-none q, omega (arith, c.told, ap length (resolved-none q)))
  counted-all n (b ∷ rest) e c = absurd (omega arith)

  pub counted-more : (n b : ℕ) (rest after : Text) → Reads q rest b after → Counted q t n rest → Counted q t (n + 1) after
  counted-more n b rest after r c =
      record {
        fewer = omega arith;
        bad = sym r.bad ∙ c.bad;
        told = omega (arith, ap length r.reads);
      }

  -- with no \ in it, it is as long as it is written
  pub counted_free : every (is_other q.escape) t ≡ true → Measures q t (Some (length t))
  counted_free e = (free_good q t e, ap length (sym (free_resolved q t e)))

resolved-empty : (q : Marks) (rest : Text) → not (empty rest) ≡ false → resolved q rest ≡ []
resolved-empty q [] e = resolved-none q
resolved-empty q (b ∷ rest) e = not-true (sym e)

-- the text put so far, and what the rest resolves to, are the resolved text
pub record Filled (q : Marks) (t : Text) (before w : Writer) (rest : Text) : Type 0 where
  pub done : Text
  pub writes : Writes before done w
  pub room : before.at + length (resolved q t) ≤ length before.out.now
  pub good : bad_escape q rest ≡ false
  pub told : done ++ resolved q rest ≡ resolved q t

module _ (q : Marks) (t : Text) (before : Writer) where
  pub filled-first : bad_escape q t ≡ false → before.at + length (resolved q t) ≤ length before.out.now → Filled q t before before t
  filled-first g h =
      record { done = []; writes = record { same = refl; puts = puts_none before.out.now before.at (omega arith) }; room = h; good = g; told = refl }

  module _ (w : Writer) (rest : Text) (f : Filled q t before w rest) where
    pub filled-room : (b : ℕ) (after : Text) → Reads q rest b after → w.at + 1 ≤ length w.out.now
    filled-room b after r =
        omega (arith, ap length r.reads, f.room, f.writes.puts.ends, writes-length f.writes, simp length-append at (ap length f.told))

    pub filled_more : (b : ℕ) (after : Text) (v : Writer) → Reads q rest b after → Writes w (b ∷ []) v → Filled q t before v after
    filled_more b after v r p =
        record {
          done = f.done ++ b ∷ [];
          writes = writes-both f.writes p;
          room = f.room;
          good = sym r.bad ∙ f.good;
          told = append_snoc f.done b (resolved q after) ∙ (rw r.reads at f.told);
        }

    pub filled-all : bad_escape q rest ≡ not (empty rest) → Writes before (resolved q t) w
    filled-all e =
        let told : f.done ≡ resolved q t = sym (append-nil f.done) ∙ (rw (resolved-empty q rest (sym e ∙ f.good)) at f.told) in
        subst (λ (u : Text). Writes before u w) told f.writes

-- each stop is at a byte of its own: a text resolved is no longer; and from a stop to the next are three bytes at most
module _ (q : Marks) where
  stops-length : (n : ℕ) (t : Text) → length (stops q n t) ≤ length t
  unfolding stops
  stops-length n [] = omega arith
  stops-length (suc n) (b ∷ t) = omega (arith, stops-length n t)
  stops-length zero (b ∷ t) = omega (arith, stops-length (pick (is_escape q (b ∷ t)) 2 0) t)

  pub resolved-length : (t : Text) → length (resolved q t) ≤ length t
  unfolding resolved
  resolved-length t = omega (arith, length-map (stops q 0 t) (stands_for q (five q)), stops-length 0 t)

  stops-apart : (n : ℕ) (t : Text) → length t ≤ n + 3 * length (stops q n t)
  unfolding stops
  stops-apart n [] = omega arith
  stops-apart (suc n) (b ∷ t) = omega (arith, stops-apart n t)
  stops-apart zero (b ∷ t) =
      let n : ℕ = pick (is_escape q (b ∷ t)) 2 0 in
      omega (arith, stops-apart n t, picks (λ (k : ℕ). k ≤ 2) (is_escape q (b ∷ t)) {x = 2} {y = 0} (omega arith) (omega arith))

  pub written-length : (t : Text) → length t ≤ 3 * length (resolved q t)
  unfolding resolved
  written-length t = omega (arith, length-map (stops q 0 t) (stands_for q (five q)), stops-apart 0 t)

-- the three answers of resolving
module _ (q : Marks) (t : Text) (room : ℕ) where
  resolve-bad : bad_escape q t ≡ true → resolve q t room ≡ refused BadEscape
  unfolding resolve first
  resolve-bad b = ap (λ (x : Bool). pick x (refused BadEscape) (first (test NoRoom (ltb room (length (resolved q t))) ∷ []) (resolved q t))) b

  resolve_checked : bad_escape q t ≡ false → resolve q t room ≡ pick (ltb room (length (resolved q t))) (refused NoRoom) (given (resolved q t))
  unfolding resolve first
  resolve_checked b = ap (λ (x : Bool). pick x (refused BadEscape) (first (test NoRoom (ltb room (length (resolved q t))) ∷ []) (resolved q t))) b

  resolve_full : bad_escape q t ≡ false → room < length (resolved q t) → resolve q t room ≡ refused NoRoom
  resolve_full b h =
      resolve_checked b
      ∙ ap (λ (x : Bool). pick x (refused NoRoom) (given (resolved q t))) (lt-ltb room (length (resolved q t)) h)

  resolve-given : bad_escape q t ≡ false → length (resolved q t) ≤ room → resolve q t room ≡ given (resolved q t)
  resolve-given b h =
      resolve_checked b
      ∙ ap (λ (x : Bool). pick x (refused NoRoom) (given (resolved q t))) (le-ltb room (length (resolved q t)) h)

-- a call's answer and buffer are those that the definition gives
resolves : (t before : Text) (r : Result ℕ Refusal) (after : Text) (a : Answer Text) → resolve usual t (length before) ≡ a → written_of r ≡ reported a
    → after ≡ buffer_after a before
    → Resolves t before r after
resolves t before r after a e p s =
    record { answer = p ∙ ap reported (sym e); buffer = s ∙ ap (λ (x : Answer Text). buffer_after x before) (sym e) }

-- the length that is measured, as `ok_or` hands it on
measured : (q : Marks) (t : Text) (o : Option ℕ) (n : ℕ) → Measures q t o → Ok n ≡ ok_or o BadEscape → (bad_escape q t ≡ false) × (n ≡ length (resolved q t))
measured q t None n m e = cc
measured q t (Some k) n m e = let h : n ≡ k = cc in (m.0, h ∙ m.1)

not_measured : (q : Marks) (t : Text) (o : Option ℕ) (x : Refusal) → Measures q t o → Err x ≡ ok_or o BadEscape → (bad_escape q t ≡ true) × (x ≡ BadEscape)
not_measured q t None x m e = (m, cc)
not_measured q t (Some k) x m e = cc

module _ (q : Marks) (t before : Text) (u : q ≡ usual) (o : Option ℕ) (m : Measures q t o) where
  pub resolves-bad : (x : Refusal) → Err x ≡ ok_or o BadEscape → Resolves t before (Err x) before
  resolves-bad x e =
      let h = not_measured q t o x m e in
      rw h.1
      (resolves t before (Err BadEscape) before (refused BadEscape) (resolve-bad usual t (length before) (rw u at h.0)) refl refl)

  pub resolves_full : (n : ℕ) → Ok n ≡ ok_or o BadEscape → length before < n → Resolves t before (Err NoRoom) before
  resolves_full n e h =
      let l = measured q t o n m e in
      resolves t before (Err NoRoom) before (refused NoRoom) (resolve_full usual t (length before) (rw u at l.0) (rw (l.1, u) at h)) refl refl

  pub resolves-given : (n : ℕ) (after : Text) (r : ℕ) → Ok n ≡ ok_or o BadEscape → Puts before 0 (resolved q t) after r → Resolves t before (Ok r) after
  resolves-given n after r e p =
      resolves t before (Ok r) after (given (resolved usual t)) (resolve-given usual t (length before) (rw u at (measured q t o n m e).0) (rw u at (puts-front-room p)))
      (ap given (rw u at (puts-front-ends p))) (rw u at (puts-front p))
