-- Laws of the walk from one listed segment to the next, written once over the number of the segment's name.
use mathlib.Core.Path.{◌≡◌, refl, sym, ap, subst, ◌∙◌}
use Prim.Native.Nat.{ℕ, zero, suc, ◌+◌, ◌-◌, ◌≤◌, ◌<◌}
use native.Mathlib.Nat.{add-zero}
use native.Mathlib.Omega.{arith}
use mathlib.Core.Bool.{Bool, true, false, not, ◌||◌}
use mathlib.Core.List.{List, [], ◌∷◌, map, flat_map}
use lib.ListN.{length, get_or, take, drop, length-take, length-drop}
use lib.Seq.{take-take, get_or-drop}
use lib.Dec.{eqb}
use borrow.Author.Tests.{ne_eqb}
use Rattle.std.specs.Prelude.{◌⊎◌, Option, None, Some, is_some, Result, Ok, Err}
use Rattle.std.proofs.Common.{inl, inr}
use Rattle.text.specs.Bytes.{Text, pick, some, keep, same, within}
use Rattle.text.specs.Marks.{marks_of}
use Rattle.text.proofs.Tests.{same_self, not-true}
use Rattle.frame.specs.Segments.{name}
use Rattle.profile.specs.Table.{Table, may_follow, may_end}
use Rattle.profile.specs.Numbers.{segment_names, segment_number, table_of}
use Rattle.segments.specs.Judged.{ReadsSegment}
use Rattle.passing.specs.Broken.{Breaks}
use Rattle.listing.specs.declared.Listed.{Listed}
use Rattle.walk.specs.declared.Halt.{Halt}
use Rattle.walk.specs.declared.Why.TheVariants.{OutOfPlace, MayNotEnd, FieldBroken}
use Rattle.checks.specs.Place.{place}
use Rattle.checks.specs.View.{Segment, segment_seen, listed_segments}
use Rattle.checks.specs.Fault.{accepted, fault, Check, field_checks, first_broken, count, walk}
use Rattle.listing.specs.Listing.{name_at, count_from, count_before, HasNumber, Here, Next, NextIs}
use Rattle.walk.specs.Named.{MSH, PID, NK1, ORC, OBR, OBX, NTE, behind_patient, behind_group, may_be_last}
use Rattle.walk.specs.Judged.{number_at, walk_from, Counts, WalksIf, Walks}
use Rattle.walk.specs.Onward.{Behind, OnwardIs}
use Rattle.codes.proofs.Numbered.{named-number}
use Rattle.leaves.proofs.Breaks.{or_else, broken-append}
use Rattle.listing.proofs.Counted.{count-on}

-- ---- the seven names by their numbers

seven : (P : ℕ → Type 0) → P 1 → P 2 → P 3 → P 4 → P 5 → P 6 → P 7 → (k : ℕ) → 1 ≤ k → k ≤ 7 → P k
seven P a b c d e f g zero l h = absurd (omega arith)
seven P a b c d e f g (suc zero) l h = a
seven P a b c d e f g (suc (suc zero)) l h = b
seven P a b c d e f g (suc (suc (suc zero))) l h = c
seven P a b c d e f g (suc (suc (suc (suc zero)))) l h = d
seven P a b c d e f g (suc (suc (suc (suc (suc zero))))) l h = e
seven P a b c d e f g (suc (suc (suc (suc (suc (suc zero)))))) l h = f
seven P a b c d e f g (suc (suc (suc (suc (suc (suc (suc zero))))))) l h = g
seven P a b c d e f g (suc (suc (suc (suc (suc (suc (suc (suc k)))))))) l h = absurd (omega arith)

-- after which the message may end
pub last_among : (k : ℕ) → OBR ≤ k → k ≤ NTE → may_be_last k ≡ true
last_among k l h =
    seven (λ j. OBR ≤ j → may_be_last j ≡ true) (λ a. absurd (omega arith)) (λ a. absurd (omega arith)) (λ a. absurd (omega arith)) (λ a. absurd (omega arith))
    (λ a. refl) (λ a. refl) (λ a. refl) k (omega arith) h l

pub last-not : (k : ℕ) → (k ≡ OBR → ⊥) → (k ≡ OBX → ⊥) → (k ≡ NTE → ⊥) → may_be_last k ≡ false
last-not k a b c = rw (ne_eqb k OBR a, ne_eqb k OBX b, ne_eqb k NTE c)

abbrev name_of : ℕ → Text
name_of k = get_or segment_names (k - 1) []

-- which may follow which
abbrev pub follows : ℕ → ℕ → Bool
follows k j =
    pick (eqb k MSH) (eqb j PID) (pick (eqb k PID || eqb k NK1) (behind_patient j) (pick (eqb k ORC) (eqb j OBR) (behind_group j)))

module _ (table : List ℕ) where
  abbrev Follow : ℕ → ℕ → Type 0
  Follow k j = may_follow (table_of table) (name_of k) (name_of j) ≡ follows k j

  follow_names : (k j : ℕ) → 1 ≤ k → k ≤ 7 → 1 ≤ j → j ≤ 7 → Follow k j
  unfolding table_of some same
  follow_names k j a b =
      seven (λ x. (y : ℕ) → 1 ≤ y → y ≤ 7 → Follow x y)
      (seven (Follow 1) refl refl refl refl refl refl refl)
      (seven (Follow 2) refl refl refl refl refl refl refl)
      (seven (Follow 3) refl refl refl refl refl refl refl)
      (seven (Follow 4) refl refl refl refl refl refl refl)
      (seven (Follow 5) refl refl refl refl refl refl refl)
      (seven (Follow 6) refl refl refl refl refl refl refl)
      (seven (Follow 7) refl refl refl refl refl refl refl)
      k a b j

  end_names : (k : ℕ) → 1 ≤ k → k ≤ 7 → may_end (table_of table) (name_of k) ≡ may_be_last k
  unfolding table_of some same
  end_names = seven (λ k. may_end (table_of table) (name_of k) ≡ may_be_last k) refl refl refl refl refl refl refl

  may_follow_lem : (n x : Text) (k j : ℕ) → HasNumber n k → HasNumber x j → may_follow (table_of table) (name n) (name x) ≡ follows k j
  may_follow_lem n x k j e f =
      let p = named-number (name n) k e.0 e.1 in
      let q = named-number (name x) j f.0 f.1 in
      rw (p.1, q.1) (follow_names k j e.1 p.0 f.1 q.0)

  may_end_lem : (n : Text) (k : ℕ) → HasNumber n k → may_end (table_of table) (name n) ≡ may_be_last k
  may_end_lem n k e = let p = named-number (name n) k e.0 e.1 in rw p.1 (end_names k e.1 p.0)

-- ---- the segment that stands there

-- the three bytes of a name
three_of : (l : Text) → 3 ≤ length l → take 3 l ≡ get_or l 0 0 ∷ get_or l 1 0 ∷ get_or l 2 0 ∷ []
three_of [] h = absurd (omega arith)
three_of (x ∷ []) h = absurd (omega arith)
three_of (x ∷ y ∷ []) h = absurd (omega arith)
three_of (x ∷ y ∷ z ∷ l) h = refl

pub three-bytes : (m : Text) (i : ℕ) → i + 3 ≤ length m → name_at m i ≡ get_or m i 0 ∷ get_or m (i + 1) 0 ∷ get_or m (i + 2) 0 ∷ []
three-bytes m i h = three_of (drop i m) (omega (arith, length-drop i m)) ∙ rw (get_or-drop i m 0 0, get_or-drop i m 1 0, get_or-drop i m 2 0, add-zero i)

count-step : (b : Bool) (x : Text) (l : List Text) (a c all : ℕ) → a ≡ pick b 1 0 + c → length l + a ≡ all → length (pick b (x ∷ l) l) + c ≡ all
count-step true x l a c all e f = omega arith
count-step false x l a c all e f = omega arith

module _ (m : Text) (start end k : ℕ) (h : Here m start end k) where
  abbrev s : Text
  s = within start end m

  name-length : length (name s) ≡ 3
  name-length =
      let p = named-number (name s) k h.number.0 h.number.1 in
      ap length p.1 ∙ seven (λ j. length (name_of j) ≡ 3) refl refl refl refl refl refl refl k h.number.1 p.0

  named-long : start + 3 ≤ end
  named-long = omega (arith, name-length, length-take 3 s, length-take (end - start) (drop start m))

  pub named-inside : start + 3 ≤ length m
  named-inside = omega (arith, named-long, h.high)

  pub named-there : name_at m start ≡ name s
  named-there = sym (take-take 3 (end - start) (drop start m) (omega (arith, named-long)))

  listed-name : 1 ≤ segment_number (name s)
  listed-name = omega (arith, h.number.0, h.number.1)

  -- it is one more than those before
  counted-here : (ns : List Text) → Counts m start ns → count_before m start (name s) ≡ count (name s) ns
  counted-here ns c = omega (arith, c (name s) listed-name)

  -- it is counted
  counts-on : (ns : List Text) → Counts m start ns → Counts m (end + 1) (name s ∷ ns)
  unfolding keep
  counts-on ns c n l =
      count-step (same n (name s)) (name s) (keep (same n) ns) (count_from m start n) (count_from m (end + 1) n) (count_from m 0 n)
      (count-on m start end h.ends h.high n) (c n l)

-- ---- the walk from it on

-- by the number that its name has
here-own : (m : Text) (start end k : ℕ) → Here m start end k → Here m start end (number_at m start end)
here-own m start end k h = subst (λ (j : ℕ). Here m start end j) (sym h.number.0) h

module _ (table : List ℕ) {m : Text} {start end k : ℕ} (h : Here m start end k) where
  abbrev T : Table
  T = table_of table

  abbrev x : Text
  x = name (within start end m)

  abbrev seen : Segment
  seen = segment_seen T (marks_of m) (within start end m)

  -- the checks of its fields, and what is after it
  abbrev own : ℕ → List Check
  own o = flat_map (field_checks (marks_of m) x o seen.fields) seen.fields

  abbrev behind : List Text → List Check
  behind ns = walk T (marks_of m) (x ∷ ns) x (map (segment_seen T (marks_of m)) (listed_segments T (drop (end + 1) m)))

  walk_split : (ns : List Text) (last : Text) → may_follow T last x ≡ true
      → walk_from T m ns last start end ≡ or_else (first_broken (own (suc (count x ns)))) (first_broken (behind ns))
  unfolding walk first_broken segment_seen
  walk_split ns last f = rw f (broken-append (own (suc (count x ns))) (behind ns))

  -- one of its own checks is broken
  pub walks_broken : Breaks (marks_of m) T (within start end m) → Walks T m start end (Err (record { why = FieldBroken; start = start; end = end }))
  walks_broken b =
      record {
        here = here-own m start end k h;
        same = λ ns last c l. rw (counted-here m start end k h ns c, walk_split ns last l, ← b.reads x (suc (count x ns)));
      }

  module _ (passed : ReadsSegment (marks_of m) T (within start end m) (Ok tt)) where
    walk-behind : (ns : List Text) (last : Text) → may_follow T last x ≡ true → walk_from T m ns last start end ≡ first_broken (behind ns)
    walk-behind ns last f = walk_split ns last f ∙ rw (← passed x (suc (count x ns)))

    -- it is the last one: the message may end there, or not
    module _ (none : listed_segments T (drop (end + 1) m) ≡ []) where
      end-walk : (ns : List Text) (last : Text) → may_follow T last x ≡ true
          → walk_from T m ns last start end ≡ pick (not (may_be_last k)) (fault (place x (suc (count x ns)) 0 0 0 0) 2) accepted
      unfolding walk first_broken keep
      end-walk ns last f = walk-behind ns last f ∙ rw (none, same_self x, may_end_lem table (within start end m) k h.number)

      walks_end : may_be_last k ≡ true → Walks T m start end (Ok tt)
      walks_end l = record { here = tt; same = λ ns last c f. sym (end-walk ns last f ∙ rw l) }

      walks_cut : may_be_last k ≡ false → Walks T m start end (Err (record { why = MayNotEnd; start = start; end = end }))
      walks_cut l =
          record {
            here = here-own m start end k h;
            same = λ ns last c f. rw (counted-here m start end k h ns c) (sym (end-walk ns last f ∙ rw l));
          }

    -- another one is after it
    walks_behind : {start' end' j : ℕ} → Next T m (end + 1) start' end' j → Behind T m start end start' end' j
    walks_behind next =
        record {
          later = omega (arith, next.low);
          here = next.here;
          counts = λ ns c n l. rw (← next.counts n l) (counts-on m start end k h ns c n l);
          same = λ ns last l. walk-behind ns last l ∙ rw next.first;
        }

    -- one is after it, or the message may end there
    pub goes_to : (o : Option Listed) → NextIs T m (end + 1) o → (is_some o ≡ true) ⊎ (may_be_last k ≡ true) → OnwardIs T m start end (Ok o)
    goes_to None none (inl e) = not-true e
    goes_to None none (inr l) = walks_end none l
    goes_to (Some l) next e = walks_behind next

    -- none is after it, and the message may not end there
    pub stops_at : (o : Option Listed) → NextIs T m (end + 1) o → is_some o ≡ false → may_be_last k ≡ false
        → Walks T m start end (Err (record { why = MayNotEnd; start = start; end = end }))
    stops_at None none e l = walks_cut none l
    stops_at (Some n) next e l = not-true (sym e)

-- ---- from it to the one after it

module _ {m : Text} {start end k : ℕ} where
  -- it is out of place
  pub out : {T : Table} → Here m start end k → WalksIf false T m start end (Err (record { why = OutOfPlace; start = start; end = end }))
  unfolding walk first_broken segment_seen
  out h =
      record {
        here = here-own m start end k h;
        same = λ ns last c f. rw (counted-here m start end k h ns c, f);
      }

  -- after a segment fewer bytes are left than from it on
  pub falls : Here m start end k → length m - end < length m - start
  falls h = omega (arith, named-long m start end k h, h.high)

module _ (table : List ℕ) {m : Text} {start end k start' end' j : ℕ} (here : Here m start end k) (next : Behind (table_of table) m start end start' end' j) where
  -- from the next one on fewer bytes are left than after this one
  pub falls_behind : length m - start' < length m - end
  falls_behind = omega (arith, next.later, here.high)

  -- the walk from the next one on is the walk
  pub goes_on : {fits : Bool} {r : Result Unit Halt} → follows k j ≡ fits → WalksIf fits (table_of table) m start' end' r → Walks (table_of table) m start end r
  goes_on f w =
      record {
        here = w.here;
        same = λ ns last c l.
            w.same (name (within start end m) ∷ ns) (name (within start end m)) (next.counts ns c)
            (may_follow_lem table (within start end m) (within start' end' m) k j here.number next.here.number ∙ f)
            ∙ sym (next.same ns last l);
      }

  pub goes_out : follows k j ≡ false → Walks (table_of table) m start end (Err (record { why = OutOfPlace; start = start'; end = end' }))
  goes_out f = goes_on f (out next.here)
