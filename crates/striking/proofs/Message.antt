-- A struck message: its segments, its view, its frame.
use mathlib.Core.Path.{◌≡◌, refl, sym, ap, subst, ◌∙◌}
use Prim.Native.Nat.{ℕ, suc, ◌≤◌}
use native.Mathlib.Omega.{arith}
use mathlib.Core.Bool.{Bool, true, false, ◌&&◌}
use mathlib.Core.List.{List, [], ◌∷◌, ◌++◌, map}
use lib.ListN.{length, take, drop}
use borrow.Author.Tests.{ltb-false, le-ltb}
use Rattle.text.specs.Bytes.{Text, pick, bytes, cr, every, some, keep, same}
use Rattle.text.specs.declared.marks.Marks.{Marks}
use Rattle.text.specs.Marks.{marks_of}
use Rattle.text.proofs.Tests.{not-true, both, same_true, same_self}
use Rattle.text.proofs.Lists.{and_both, or-none}
use Rattle.parts.specs.Split.{closed}
use Rattle.parts.proofs.Join.{Free, AllFree, ended-closed, ended_free}
use Rattle.frame.specs.Segments.{segments, name, is_name, is_header}
use Rattle.frame.specs.Frame.{allowed, header, ends_with_cr, opens, is_segment, framed}
use Rattle.frame.proofs.Frame.{Framed, framed-tests, tests-framed, closed-segments}
use Rattle.profile.specs.Table.{Table, is_listed}
use Rattle.reader.specs.View.{segment_seen, view}
use Rattle.striking.specs.Strike.{rewritten, strike_after_ninth, strike_segment, strike}
use Rattle.profile.specs.Fit.{fit}
use Rattle.striking.proofs.Shrink.{Sub, done, skip, hold, sub_none, sub_append, sub_free, sub_every, sub_length}
use Rattle.striking.proofs.Kept.{front-struck, name-struck, segment_sub}
use Rattle.striking.proofs.Seen.{segment-same}

module _ (T : Table) (q : Marks) where
  abbrev pub L : Text → Bool
  L s = is_listed T (name s)

  -- the listed ones of some segments, struck
  abbrev pub strikes : List Text → List Text
  strikes ss = map (strike_segment T q) (keep L ss)

  -- 1. What holds of each listed segment, struck
  free_step : (b : Bool) (x : Text) (ls : List Text) → Free cr x → AllFree cr (map (strike_segment T q) ls)
      → AllFree cr (map (strike_segment T q) (pick b (x ∷ ls) ls))
  free_step true x ls f a = (sub_free cr (segment_sub T q x) f, a)
  free_step false x ls f a = a

  strikes_free : (ss : List Text) → AllFree cr ss → AllFree cr (strikes ss)
  unfolding keep
  strikes_free [] a = tt
  strikes_free (x ∷ ss) a = free_step (L x) x (keep L ss) a.0 (strikes_free ss a.1)

  keep-step : (x : Text) (ls : List Text) (b : Bool) → L x ≡ b → keep L (map (strike_segment T q) ls) ≡ map (strike_segment T q) ls
      → keep L (map (strike_segment T q) (pick b (x ∷ ls) ls)) ≡ map (strike_segment T q) (pick b (x ∷ ls) ls)
  unfolding keep
  keep-step x ls true e h = rw (name-struck T q x, e, h)
  keep-step x ls false e h = h

  -- they are listed still
  strikes-listed : (ss : List Text) → keep L (strikes ss) ≡ strikes ss
  unfolding keep
  strikes-listed [] = refl
  strikes-listed (x ∷ ss) = keep-step x (keep L ss) (L x) refl (strikes-listed ss)

  seen_all : fit T ≡ true → (ss : List Text) → map (segment_seen T q) (map (strike_segment T q) ss) ≡ map (segment_seen T q) ss
  seen_all ok [] = refl
  seen_all ok (x ∷ ss) = rw (segment-same T q x ok, seen_all ok ss)

  -- the form of a segment is read from its first four bytes
  opens-front : (s : Text) → opens q (drop 3 (take 4 s)) ≡ opens q (drop 3 s)
  opens-front [] = refl
  opens-front (a ∷ []) = refl
  opens-front (a ∷ b ∷ []) = refl
  opens-front (a ∷ b ∷ c ∷ []) = refl
  opens-front (a ∷ b ∷ c ∷ d ∷ s) = refl

  formed-struck : (s : Text) → is_segment q (strike_segment T q s) ≡ is_segment q s
  formed-struck s =
      rw (name-struck T q s)
      (ap (λ (b : Bool). is_name (name s) && b)
      (sym (opens-front (strike_segment T q s))
      ∙ ap (λ (t : Text). opens q (drop 3 t)) (front-struck T q s 4 (omega arith))
      ∙ opens-front s))

  formed-step : (b : Bool) (x : Text) (ls : List Text) → is_segment q x ≡ true → every (is_segment q) (map (strike_segment T q) ls) ≡ true
      → every (is_segment q) (map (strike_segment T q) (pick b (x ∷ ls) ls)) ≡ true
  unfolding every
  formed-step true x ls e h =
      and_both (is_segment q (strike_segment T q x)) (every (is_segment q) (map (strike_segment T q) ls)) (formed-struck x ∙ e) h
  formed-step false x ls e h = h

  strikes-formed : (ss : List Text) → every (is_segment q) ss ≡ true → every (is_segment q) (strikes ss) ≡ true
  unfolding every keep
  strikes-formed [] e = refl
  strikes-formed (x ∷ ss) e =
      let h = both (is_segment q x) (every (is_segment q) ss) e in
      formed-step (L x) x (keep L ss) h.0 (strikes-formed ss h.1)

  header-step : (b : Bool) (x : Text) (ls : List Text) → is_header x ≡ false → some is_header (map (strike_segment T q) ls) ≡ false
      → some is_header (map (strike_segment T q) (pick b (x ∷ ls) ls)) ≡ false
  unfolding some
  header-step true x ls e h = rw (name-struck T q x, e) h
  header-step false x ls e h = h

  strikes-headers : (ss : List Text) → some is_header ss ≡ false → some is_header (strikes ss) ≡ false
  unfolding some keep
  strikes-headers [] e = refl
  strikes-headers (x ∷ ss) e =
      let h = or-none (is_header x) (some is_header ss) e in
      header-step (L x) x (keep L ss) h.0 (strikes-headers ss h.1)

  fewer-step : (b : Bool) (x : Text) (ls ss : List Text) → length (map (strike_segment T q) ls) ≤ length ss
      → length (map (strike_segment T q) (pick b (x ∷ ls) ls)) ≤ suc (length ss)
  fewer-step true x ls ss h = omega arith
  fewer-step false x ls ss h = omega arith

  strikes-fewer : (ss : List Text) → length (strikes ss) ≤ length ss
  unfolding keep
  strikes-fewer [] = omega arith
  strikes-fewer (x ∷ ss) = fewer-step (L x) x (keep L ss) ss (strikes-fewer ss)

  sub_step : (b : Bool) (x : Text) (ss ls : List Text) → Sub (closed cr (map (strike_segment T q) ls)) (closed cr ss)
      → Sub (closed cr (map (strike_segment T q) (pick b (x ∷ ls) ls))) (closed cr (x ∷ ss))
  unfolding closed
  sub_step true x ss ls h = sub_append (segment_sub T q x) (hold h)
  sub_step false x ss ls h = sub_append (sub_none x) (skip h)

  strikes_sub : (ss : List Text) → Sub (closed cr (strikes ss)) (closed cr ss)
  unfolding keep
  strikes_sub [] = unfold closed in done
  strikes_sub (x ∷ ss) = sub_step (L x) x ss (keep L ss) (strikes_sub ss)

module _ (T : Table) (m : Text) where
  -- 2. The segments and the view
  pub segments-struck : segments (strike T m) ≡ strikes T (marks_of m) (segments m)
  unfolding strike
  segments-struck =
      ended-closed cr (strikes T (marks_of m) (segments m)) (strikes_free T (marks_of m) (segments m) (ended_free cr m))

  -- THE MESSAGE IS SEEN AS IT WAS
  pub view-same : fit T ≡ true → marks_of (strike T m) ≡ marks_of m → view T (strike T m) ≡ view T m
  unfolding view
  view-same ok e =
      rw (e, segments-struck, strikes-listed T (marks_of m) (segments m)) (seen_all T (marks_of m) ok (keep (L T (marks_of m)) (segments m)))

-- 3. The frame
ends_more : (b : ℕ) (t : Text) → ends_with_cr t ≡ true → ends_with_cr (b ∷ t) ≡ true
unfolding ends_with_cr
ends_more b [] e = not-true e
ends_more b (c ∷ t) e = e

ends-append : (p t : Text) → ends_with_cr t ≡ true → ends_with_cr (p ++ t) ≡ true
ends-append [] t e = e
ends-append (b ∷ p) t e = ends_more b (p ++ t) (ends-append p t e)

closed-ends : (x : Text) (xs : List Text) → ends_with_cr (closed cr (x ∷ xs)) ≡ true
unfolding closed ends_with_cr
closed-ends x [] = ends-append x (cr ∷ []) refl
closed-ends x (y ∷ ys) = ends-append x (cr ∷ closed cr (y ∷ ys)) (ends_more cr (closed cr (y ∷ ys)) (closed-ends y ys))

-- the first segment begins with what the message begins with
prefix_free : (h s r : Text) → Free cr h → take (length h) (s ++ cr ∷ r) ≡ h → (x : Text) × (s ≡ h ++ x)
prefix_free [] s r f e = (s, refl)
prefix_free (b ∷ h) [] r f e = not-true (sym f.0 ∙ rw (← e_head) refl)
  where
    e_head : cr ≡ b
    e_head = cc
prefix_free (b ∷ h) (c ∷ s) r f e =
    let e_head : c ≡ b = cc in
    let e-rest : take (length h) (s ++ cr ∷ r) ≡ h = cc in
    let w = prefix_free h s r f.1 e-rest in
    (w.0, ap (λ (k : ℕ). k ∷ s) e_head ∙ ap {B = Text} (λ l. b ∷ l) w.1)

header_free : (m : Text) → Free cr (header (marks_of m))
unfolding marks_of
header_free m = (refl, (refl, (refl, (refl, (refl, (refl, (refl, (refl, (refl, tt)))))))))

-- a first segment that begins as the header does
abbrev Begins : Text → List Text → Type 0
Begins h ss = (x : Text) × (xs : List Text) × (ss ≡ (h ++ x) ∷ xs)

begins_by : (m : Text) (ss : List Text) → closed cr ss ≡ m → Framed m → Begins (header (marks_of m)) ss
unfolding closed
begins_by m [] e f = not-true (sym f.some_byte ∙ rw (← e))
begins_by m (s ∷ ss) e f =
    let w = prefix_free (header (marks_of m)) s (closed cr ss) (header_free m)
    (rw e (same_true (take 9 m) (header (marks_of m)) f.headed)) in
    (w.0, ss, ap (λ (t : Text). t ∷ ss) w.1)

pub begins : (m : Text) → Framed m → Begins (header (marks_of m)) (segments m)
begins m f = begins_by m (segments m) (closed-segments m f.closed_by_cr) f

-- the header is kept, with its first nine bytes
module _ (T : Table) (msh : is_listed T (bytes "MSH") ≡ true) (m x : Text) (xs : List Text)
    (e : segments m ≡ (header (marks_of m) ++ x) ∷ xs) where
  abbrev q : Marks
  q = marks_of m

  abbrev body : Text
  body = rewritten q.field (strike_after_ninth T q (header q ++ x)) x

  first-struck : strikes T q (segments m) ≡ (header q ++ body) ∷ strikes T q xs
  unfolding strike_segment keep same
  first-struck = rw (e, msh)

  struck-text : strike T m ≡ closed cr ((header q ++ body) ∷ strikes T q xs)
  unfolding strike
  struck-text = ap (closed cr) first-struck

  pub struck-nine : take 9 (strike T m) ≡ header q
  struck-nine = rw struck-text (unfold closed in refl)

  -- the separators stay
  struck-marks : marks_of (strike T m) ≡ marks_of m
  unfolding marks_of
  struck-marks = refl

  struck-later : drop 1 (segments (strike T m)) ≡ strikes T q xs
  struck-later = ap (drop 1) (segments-struck T m ∙ first-struck)

  struck-framed : Framed m → Framed (strike T m)
  struck-framed f =
      let sub : Sub (strike T m) m =
      unfold strike in subst (Sub (closed cr (strikes T q (segments m)))) (closed-segments m f.closed_by_cr) (strikes_sub T q (segments m)) in
      record {
        some_byte = rw struck-text (unfold closed in refl);
        short =
            le-ltb 65535 (length (strike T m))
            (omega (arith, sub_length sub, ltb-false 65535 (length m) f.short));
        bytes-allowed = sub_every allowed sub f.bytes-allowed;
        headed = rw (struck-nine, struck-marks) (same_self (header q));
        closed_by_cr = rw struck-text (closed-ends (header q ++ body) (strikes T q xs));
        formed = rw (struck-marks, segments-struck T m) (strikes-formed T q (segments m) f.formed);
        one-header = rw struck-later (strikes-headers T q xs (rw e at f.one-header));
        few =
            rw (segments-struck T m)
            (le-ltb 512 (length (strikes T q (segments m)))
            (omega (arith, strikes-fewer T q (segments m), ltb-false 512 (length (segments m)) f.few)));
      }

-- THE FRAME STANDS, and so do the separators
module _ (T : Table) (msh : is_listed T (bytes "MSH") ≡ true) (m : Text) (good : framed m ≡ true) where
  pub frame-struck : framed (strike T m) ≡ true
  frame-struck =
      let w = begins m (framed-tests m good) in
      tests-framed (strike T m) (struck-framed T msh m w.0 w.1 w.2 (framed-tests m good))

  pub marks-struck : marks_of (strike T m) ≡ marks_of m
  marks-struck =
      let w = begins m (framed-tests m good) in
      struck-marks T msh m w.0 w.1 w.2
