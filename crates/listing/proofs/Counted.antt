-- Counting the segments of a name, from segment to segment.
use mathlib.Core.Path.{◌≡◌, refl, sym, ap, ◌∙◌}
use Prim.Native.Nat.{ℕ, zero, suc, ◌+◌, ◌-◌, ◌≤◌, ◌<◌}
use native.Mathlib.Numerals.{add-one}
use native.Mathlib.Omega.{arith}
use mathlib.Core.Bool.{Bool, true, false, ◌&&◌}
use mathlib.Core.List.{List, [], ◌∷◌, map}
use lib.ListN.{length, get_or, drop, length-take, length-drop}
use lib.Seq.{get_or-drop}
use lib.Dec.{eqb}
use borrow.Author.Tests.{eq-eqb, eqb-true}
use Rattle.std.specs.Cmp.Lexicographic.{pointwise}
use Rattle.std.specs.List.{starts_with}
use Rattle.text.specs.Bytes.{Text, pick, cr, keep, same, within}
use Rattle.text.proofs.Tests.{same_true}
use Rattle.parts.specs.Start.{reach}
use Rattle.parts.proofs.Reach.{ended-on}
use Rattle.frame.specs.Segments.{segments, name}
use Rattle.profile.specs.Numbers.{segment_number}
use Rattle.listing.specs.Listing.{name_at, count_from, count_before, Opens}

-- ---- where a segment starts

-- the separator that is reached
reached-step : (sep b : ℕ) (t : Text) (r : ℕ) (c : Bool) → eqb b sep ≡ c → (r < length t → get_or t r 0 ≡ sep) → pick c 0 (suc r) < suc (length t)
    → get_or (b ∷ t) (pick c 0 (suc r)) 0 ≡ sep
reached-step sep b t r true e ih h = eqb-true b sep e
reached-step sep b t r false e ih h = ih (omega arith)

reached : (sep : ℕ) (t : Text) → reach sep t < length t → get_or t (reach sep t) 0 ≡ sep
unfolding reach
reached sep [] h = absurd (omega arith)
reached sep (b ∷ t) h = reached-step sep b t (reach sep t) (eqb b sep) refl (reached sep t) h

-- none comes earlier
earliest-step : (c : Bool) (r i : ℕ) → r ≤ i → pick c 0 (suc r) ≤ suc i
earliest-step true r i h = omega arith
earliest-step false r i h = omega arith

earliest : (sep : ℕ) (t : Text) (i : ℕ) → i < length t → get_or t i 0 ≡ sep → reach sep t ≤ i
unfolding reach
earliest sep [] i h e = absurd (omega arith)
earliest sep (b ∷ t) zero h e = rw (eq-eqb b sep e) (omega arith)
earliest sep (b ∷ t) (suc i) h e = earliest-step (eqb b sep) (reach sep t) i (earliest sep t i (omega arith) e)

-- the segment before one that starts there ends before it
pub ends_before : (m : Text) (at start : ℕ) → at < start → start ≤ length m → Opens m start → at + reach cr (drop at m) < start
ends_before m at zero l h o = absurd (omega arith)
ends_before m at (suc i) l h o =
    let e : at + (i - at) ≡ i = omega arith in
    omega (arith, earliest cr (drop at m) (i - at) (omega (arith, length-drop at m)) (get_or-drop at m (i - at) 0 ∙ rw e o))

-- ---- a segment further

more-step : (b : Bool) (x : Text) (l : List Text) → length (pick b (x ∷ l) l) ≡ pick b 1 0 + length l
more-step true x l = omega arith
more-step false x l = omega arith

module _ (m : Text) (start end : ℕ) (ends : end ≡ start + reach cr (drop start m)) (more : end < length m) where
  abbrev s : Text
  s = within start end m

  pub segment-next : segments (drop start m) ≡ s ∷ segments (drop (end + 1) m)
  segment-next = ended-on cr m start end (omega arith) ends more

  pub opens-behind : Opens m (end + 1)
  opens-behind =
      rw (add-one end, ends)
      (sym (get_or-drop start m (reach cr (drop start m)) 0) ∙ reached cr (drop start m) (omega (arith, length-drop start m)))

  pub count-on : (n : Text) → count_from m start n ≡ pick (same n (name s)) 1 0 + count_from m (end + 1) n
  unfolding keep
  count-on n = rw segment-next (more-step (same n (name s)) (name s) (keep (same n) (map name (segments (drop (end + 1) m)))))

-- a listed name is no other
other_step : (n x : Text) (b : Bool) → same n x ≡ b → 1 ≤ segment_number n → segment_number x ≡ 0 → b ≡ false
other_step n x true e l z = absurd (omega (arith, ap segment_number (same_true n x e)))
other_step n x false e l z = refl

pub other_name : (n x : Text) → 1 ≤ segment_number n → segment_number x ≡ 0 → same n x ≡ false
other_name n x l z = other_step n x (same n x) refl l z

-- ---- whether a segment has the name that stands there

-- the library's test of bytes is this repository's
same-bytes : (s t : Text) → same s t ≡ pointwise eqb s t
unfolding same
same-bytes [] [] = refl
same-bytes [] (y ∷ t) = refl
same-bytes (x ∷ s) [] = refl
same-bytes (x ∷ s) (y ∷ t) = ap (λ b. eqb x y && b) (same-bytes s t)

pub is_namesake : (m : Text) (start at end : ℕ) → start + 3 ≤ length m → (r : Bool)
    → r ≡ starts_with eqb (within at end m) (within start (start + 3) m) → r ≡ same (name_at m start) (name (within at end m))
is_namesake m start at end inside r e =
    let a : start + 3 - start ≡ 3 = omega arith in
    let l : length (name_at m start) ≡ 3 = omega (arith, length-take 3 (drop start m), length-drop start m) in
    (rw (a, l) at e) ∙ sym (same-bytes (name_at m start) (name (within at end m)))

-- ---- the occurrence, told from where the count stands

pub record Counted (m : Text) (start occurrence at : ℕ) : Type 0 where
  pub low : at ≤ start
  pub some : 1 ≤ occurrence
  pub few : occurrence ≤ at + 1
  pub counted : occurrence + count_from m at (name_at m start) ≡ count_from m 0 (name_at m start) + 1

pub counted-first : (m : Text) (start : ℕ) → Counted m start 1 0
counted-first m start = record { low = omega arith; some = omega arith; few = omega arith; counted = omega arith }

module _ {m : Text} {start occurrence at : ℕ} (w : Counted m start occurrence at) where
  module _ (inside : start + 3 ≤ length m) (opens : Opens m start) (before : at < start) {end : ℕ} (ends : end ≡ at + reach cr (drop at m)) where
    counted-end : end < start
    counted-end = rw ends (ends_before m at start before (omega arith) opens)

    abbrev namesake : Bool
    namesake = same (name_at m start) (name (within at end m))

    one_on : count_from m at (name_at m start) ≡ pick namesake 1 0 + count_from m (end + 1) (name_at m start)
    one_on = count-on m at end ends (omega (arith, counted-end)) (name_at m start)

    on : (r : Bool) (b : ℕ) → namesake ≡ r → b ≡ occurrence + pick r 1 0 → pick r 1 0 ≤ 1 → Counted m start b (end + 1)
    on r b e f l =
        record {
          low = omega (arith, counted-end);
          some = omega (arith, w.some);
          few = omega (arith, w.few, ends);
          counted = omega (arith, w.counted, rw e at one_on);
        }

    pub counted-more : {r : Bool} {b : ℕ} → r ≡ namesake → r ≡ true → b ≡ occurrence + 1 → Counted m start b (end + 1)
    counted-more e t f = on _ _ (sym e ∙ t) f (omega arith)

    pub counted-other : {r : Bool} {b : ℕ} → r ≡ namesake → r ≡ false → b ≡ occurrence → Counted m start b (end + 1)
    counted-other e t f = on _ _ (sym e ∙ t) (omega arith) (omega arith)

  pub counted-all : start ≤ at → occurrence ≡ count_before m start (name_at m start) + 1
  counted-all l =
      let e : at ≡ start = omega (arith, w.low) in
      omega (arith, w.some, rw e at w.counted)
