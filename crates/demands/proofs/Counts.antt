-- The counts of all groups together: the message's OBX, since in an accepted message no OBX stands before the first OBR.
use mathlib.Core.Path.{◌≡◌, refl, sym, ap, ◌∙◌}
use Prim.Native.Nat.{ℕ, zero, suc, ◌+◌}
use native.Mathlib.Omega.{arith}
use mathlib.Core.Bool.{Bool, true, false, not, ◌&&◌, ◌||◌}
use mathlib.Core.List.{List, [], ◌∷◌, map, flat_map}
use lib.ListN.{length}
use borrow.Author.Tests.{not-true, not-false}
use Rattle.text.specs.Bytes.{Text, pick, bytes, every, some, keep, same, is_one}
use Rattle.text.specs.Marks.{marks_of}
use Rattle.text.specs.declared.marks.Marks.{Marks}
use Rattle.text.proofs.Tests as tests
use Rattle.text.proofs.Lists.{All, every-all, or_either}
use Rattle.frame.specs.Segments.{segments, name, named, of_name}
use Rattle.profile.specs.Table.{Succession, is_listed, may_follow}
use Rattle.profile.specs.Noted.{noted}
use Rattle.profile.specs.Fields.{rows}
use Rattle.profile.specs.Profile.{profile01}
use Rattle.reader.specs.View.{segment_seen, view}
use Rattle.reader.specs.Fault.{Check, field_checks, count, walk, checks}
use Rattle.std.proofs.Common.{None, Ok}
use Rattle.reader.specs.Promise.{Judges}
use Rattle.parts.proofs.Members.{append-all, picked}
use Rattle.reader.proofs.Accepted.{judged-accepted}
use Rattle.reader.specs.Observations.{observations, observations_from}
use Rattle.demands.specs.Idle.{observations_in, groups, together}

abbrev order : Text
order = bytes "OBR"

abbrev observation : Text
observation = bytes "OBX"

-- the counts of the groups at the first n OBR of these segments
unfoldable groups_of : List Text → ℕ → ℕ
groups_of ss zero = 0
groups_of ss (suc n) = observations_from ss n + groups_of ss n

module _ (s : Text) (ss : List Text) where
  -- an OBR opens a group; any other segment leaves the groups after it as they are
  order-opens : named order s ≡ true → (n : ℕ) → groups_of (s ∷ ss) (suc n) ≡ observations ss + groups_of ss n
  unfolding groups_of observations_from
  order-opens e zero = rw e
  order-opens e (suc n) = rw e (omega (arith, order-opens e n))

  other_from : named order s ≡ false → (i : ℕ) → observations_from (s ∷ ss) i ≡ observations_from ss i
  unfolding observations_from
  other_from e zero = rw e
  other_from e (suc i) = rw e

  other-passes : named order s ≡ false → (n : ℕ) → groups_of (s ∷ ss) n ≡ groups_of ss n
  unfolding groups_of
  other-passes e zero = refl
  other-passes e (suc n) = rw (other_from e n, other-passes e n)

  all-step : (r x : Bool) → named order s ≡ r → named observation s ≡ x
      → observations ss + groups_of ss (length (of_name order ss)) ≡ length (of_name observation ss)
      → observations (s ∷ ss) + groups_of (s ∷ ss) (length (of_name order (s ∷ ss))) ≡ length (of_name observation (s ∷ ss))
  unfolding observations keep same
  all-step true x e f ih =
      let g : named observation s ≡ false = rw (tests.same_true (name s) order e) in
      rw (e, g) (omega (arith, ih, order-opens e (length (of_name order ss))))
  all-step false true e f ih = rw (e, f) (omega (arith, ih, other-passes e (length (of_name order ss))))
  all-step false false e f ih = rw (e, f) (omega (arith, ih, other-passes e (length (of_name order ss))))

-- EACH OBX stands before the first OBR or in one group
counted-once : (ss : List Text) → observations ss + groups_of ss (length (of_name order ss)) ≡ length (of_name observation ss)
unfolding observations groups_of keep
counted-once [] = refl
counted-once (s ∷ ss) = all-step s ss (named order s) (named observation s) refl refl (counted-once ss)

together-groups : (m : Text) (n : ℕ) → together m n ≡ groups_of (segments m) n
unfolding groups_of
together-groups m zero = refl
together-groups m (suc n) = rw (together-groups m n)

-- of every message
together-all : (m : Text) → observations (segments m) + together m (groups m) ≡ observations_in m
together-all m = rw (together-groups m (groups m)) (counted-once (segments m))

-- a segment whose name passes a test has no name that doesn't
module _ (test : Text → Bool) (n s : Text) where
  differs-step : (b c : Bool) → named n s ≡ c → test (name s) ≡ b → test n ≡ not b → c ≡ false
  differs-step true true e p q = tests.not-true (sym q ∙ ap test (sym (tests.same_true (name s) n e)) ∙ p)
  differs-step false true e p q = tests.not-true (sym p ∙ ap test (tests.same_true (name s) n e) ∙ q)
  differs-step b false e p q = refl

  differs : (b : Bool) → test (name s) ≡ b → test n ≡ not b → named n s ≡ false
  differs b p q = differs-step b (named n s) refl p q

-- the names that stand before the first OBR, no bytes before the first segment among them
abbrev opening : List Text
opening = map bytes ("" ∷ "MSH" ∷ "PID" ∷ "NK1" ∷ "ORC" ∷ [])

abbrev leads_on : Succession → Bool
leads_on s = not (is_one s.segment opening) || every (λ n. is_one n (order ∷ opening)) s.then

-- after each of them comes one of them, or OBR: the whole succession, tested once
leads-on : All (λ s. leads_on s ≡ true) profile01.succession
unfolding profile01 every some same
leads-on = every-all leads_on profile01.succession refl

next-opening : (last n : Text) → is_one last opening ≡ true → may_follow profile01 last n ≡ true → is_one n (order ∷ opening) ≡ true
next-opening last n o e =
    let f = picked (λ s. leads_on s ≡ true) (λ s. same s.segment last && is_one n s.then) profile01.succession leads-on e in
    let b = tests.both (same f.0.segment last) (is_one n f.0.then) f.1.1 in
    let l = rw (tests.same_true f.0.segment last b.0, o) at f.1.0 in
    let g = picked (λ x. is_one x (order ∷ opening) ≡ true) (same n) f.0.then (every-all (λ x. is_one x (order ∷ opening)) f.0.then l) b.1 in
    rw (tests.same_true n g.0 g.1.1) g.1.0

observation-listed : is_listed profile01 observation ≡ true
unfolding flat_map some same profile01 noted rows
observation-listed = refl

observation-later : is_one observation opening ≡ false
unfolding some same
observation-later = refl

-- no check of these is broken
abbrev Unbroken : List Check → Type 0
Unbroken cs = All (λ (c : Check). not c.broken ≡ true) cs

module _ (q : Marks) where
  abbrev listed : Text → Bool
  listed s = is_listed profile01 (name s)

  abbrev walk_on : List Text → Text → List Text → List Check
  walk_on ns last ss = walk profile01 q ns last (map (segment_seen profile01 q) ss)

  -- a walk with no broken check: its first segment may stand there, and the walk after it has none
  walk_first : (ns : List Text) (last s : Text) (ss : List Text) → Unbroken (walk_on ns last (s ∷ ss))
      → (may_follow profile01 last (name s) ≡ true) × Unbroken (walk_on (name s ∷ ns) (name s) ss)
  unfolding walk segment_seen
  walk_first ns last s ss a =
      let may = may_follow profile01 last (name s) in
      let fields = (segment_seen profile01 q s).fields in
      let own = flat_map (field_checks q (name s) (suc (count (name s) ns)) fields) fields in (
        not-false may (not-true (not may) a.0),
        (append-all (λ (c : Check). not c.broken ≡ true) own (walk_on (name s ∷ ns) (name s) ss) a.1).1,
      )

  -- a segment that is no OBX
  passed-step : (b : Bool) (n : ℕ) → n ≡ 0 → pick b 0 n ≡ 0
  passed-step true n e = refl
  passed-step false n e = e

  passed_over : (s : Text) (ss : List Text) → named observation s ≡ false → observations ss ≡ 0 → observations (s ∷ ss) ≡ 0
  unfolding observations
  passed_over s ss e h = rw e (passed-step (named order s) (observations ss) h)

  -- so no OBX is met before the first OBR
  module _ (s : Text) (ss : List Text)
      (ih : (ns : List Text) (last : Text) → is_one last opening ≡ true → Unbroken (walk_on ns last (keep listed ss)) → observations ss ≡ 0) where
    opening-step : (ns : List Text) → is_one (name s) (order ∷ opening) ≡ true → Unbroken (walk_on (name s ∷ ns) (name s) (keep listed ss)) → observations (s ∷ ss) ≡ 0
    unfolding some observations
    opening-step ns o a =
        or_either (named order s) (is_one (name s) opening)
        (λ e. rw e)
        (λ e. passed_over s ss (differs (λ n. is_one n opening) observation s true e observation-later) (ih (name s ∷ ns) (name s) e a))
        o

    listed-step : (ns : List Text) (last : Text) (b : Bool) → listed s ≡ b → is_one last opening ≡ true
        → Unbroken (walk_on ns last (pick b (s ∷ keep listed ss) (keep listed ss))) → observations (s ∷ ss) ≡ 0
    listed-step ns last true e o a =
        let w = walk_first ns last s (keep listed ss) a in
        opening-step ns (next-opening last (name s) o w.0) w.1
    listed-step ns last false e o a =
        passed_over s ss (differs (is_listed profile01) observation s false e observation-listed) (ih ns last o a)

  none_before : (ss ns : List Text) (last : Text) → is_one last opening ≡ true → Unbroken (walk_on ns last (keep listed ss)) → observations ss ≡ 0
  unfolding keep observations
  none_before [] ns last o a = refl
  none_before (s ∷ ss) ns last o a = listed-step s ss (none_before ss) ns last (listed s) refl o a

-- NO OBX OF AN ACCEPTED MESSAGE stands before its first OBR
accepted-before : (m : Text) → Judges profile01 m (Ok None) → observations (segments m) ≡ 0
unfolding checks view some same
accepted-before m j =
    none_before (marks_of m) (segments m) [] [] refl
    (every-all (λ (c : Check). not c.broken) (checks profile01 m) (judged-accepted profile01 m (sym j)).1)

-- so THE COUNTS OF ITS GROUPS together are its OBX
pub counts_all : (m : Text) → Judges profile01 m (Ok None) → together m (groups m) ≡ observations_in m
counts_all m j = omega (arith, together-all m, accepted-before m j)
