-- An accepted message has a PID: only PID may follow the header, and the message may not end there.
use mathlib.Core.Path.{◌≡◌, refl}
use Prim.Native.Nat.{suc, ◌≤◌}
use native.Mathlib.Omega.{arith}
use mathlib.Core.Bool.{Bool, true, false, not}
use mathlib.Core.List.{List, [], ◌∷◌, ◌++◌, map, flat_map}
use lib.ListN.{length, get_or, drop}
use borrow.Author.Tests.{le-ltb, not-true, not-false}
use Rattle.text.specs.Bytes.{Text, pick, bytes, every, some, keep, same}
use Rattle.text.specs.Marks.{marks_of}
use Rattle.text.specs.declared.marks.Marks.{Marks}
use Rattle.text.proofs.Tests as tests
use Rattle.text.proofs.Lists.{or-false}
use Rattle.frame.specs.Segments.{segments, name, named, of_name, fewer}
use Rattle.frame.specs.Frame.{framed}
use Rattle.profile.specs.Table.{Table, is_listed, may_follow}
use Rattle.profile.specs.Noted.{noted}
use Rattle.profile.specs.Fields.{rows}
use Rattle.profile.specs.Profile.{profile01}
use Rattle.checks.specs.View.{Segment, segment_seen, view}
use Rattle.checks.specs.Fault.{Check, field_checks, count, walk, checks, accepted, verdict}
use Rattle.checks.specs.First.{none_broken}
use Rattle.accepted.proofs.Accepted.{accepted-none}
use Rattle.frame.proofs.Header.{header-opens}

-- where no check is broken, none of the later ones is
none-behind : (cs ds : List Check) → none_broken (cs ++ ds) ≡ true → none_broken ds ≡ true
unfolding every
none-behind [] ds e = e
none-behind (c ∷ cs) ds e = none-behind cs ds (tests.both (not c.broken) (none_broken (cs ++ ds)) e).1

-- a walk with no broken check: its first segment may stand there, and the walk after it has none
module _ (T : Table) (q : Marks) (ns : List Text) (last : Text) (s : Segment) (ss : List Segment) where
  abbrev own : List Check
  own = flat_map (field_checks q s.name (suc (count s.name ns)) s.fields) s.fields

  abbrev behind : List Check
  behind = walk T q (s.name ∷ ns) s.name ss

  first-follows : none_broken (walk T q ns last (s ∷ ss)) ≡ true → may_follow T last s.name ≡ true
  unfolding walk every
  first-follows e =
      let may = may_follow T last s.name in
      not-false may (not-true (not may) (tests.both (not (not may)) (none_broken (own ++ behind)) e).0)

  none_further : none_broken (walk T q ns last (s ∷ ss)) ≡ true → none_broken behind ≡ true
  unfolding walk every
  none_further e = none-behind own behind (tests.both (not (not (may_follow T last s.name))) (none_broken (own ++ behind)) e).1

-- how many members a test keeps: no more where others were left out before
picked_more : {A : Type 0} (x : A) (l : List A) (b : Bool) → length l ≤ length (pick b (x ∷ l) l)
picked_more x l true = omega arith
picked_more x l false = omega arith

module _ {A : Type 0} (f g : A → Bool) where
  picked-fewer : (x : A) (k l : List A) (b : Bool) → length k ≤ length l → length (pick b (x ∷ k) k) ≤ length (pick b (x ∷ l) l)
  picked-fewer x k l true h = omega arith
  picked-fewer x k l false h = h

  fewer-step : (x : A) (k l : List A) (b : Bool) → length (keep f k) ≤ length (keep f l) → length (keep f (pick b (x ∷ k) k)) ≤ length (keep f (x ∷ l))
  unfolding keep
  fewer-step x k l true h = picked-fewer x (keep f k) (keep f l) (f x) h
  fewer-step x k l false h = omega (arith, picked_more x (keep f l) (f x))

  keep-fewer : (l : List A) → length (keep f (keep g l)) ≤ length (keep f l)
  unfolding keep
  keep-fewer [] = omega arith
  keep-fewer (x ∷ l) = fewer-step x (keep g l) l (g x) (keep-fewer l)

-- of the depot's table
abbrev header : Text
header = bytes "MSH"

abbrev patient : Text
patient = bytes "PID"

pub header-listed : is_listed profile01 header ≡ true
unfolding flat_map some same profile01 noted rows
header-listed = refl

patient-next : (n : Text) → may_follow profile01 header n ≡ true → same n patient ≡ true
unfolding some same profile01
patient-next n e = rw (or-false, or-false) at e

-- the listed segments, and those after the header
module _ (q : Marks) where
  abbrev seen : List Text → List Segment
  seen ss = map (segment_seen profile01 q) ss

  abbrev listed : List Text → List Text
  listed ss = keep (λ s. is_listed profile01 (name s)) ss

  patient-follows : (ns ss : List Text) → none_broken (walk profile01 q ns header (seen ss)) ≡ true → 1 ≤ length (of_name patient ss)
  unfolding segment_seen keep
  patient-follows ns [] e = tests.not-true (unfold walk every some same profile01 in e)
  patient-follows ns (s ∷ ss) e =
      let n = patient-next (name s) (first-follows profile01 q ns header (segment_seen profile01 q s) (seen ss) e) in
      rw n (omega arith)

  header_further : (h : Text) (ss : List Text) → name h ≡ header → none_broken (walk profile01 q [] [] (seen (h ∷ ss))) ≡ true
      → none_broken (walk profile01 q (header ∷ []) header (seen ss)) ≡ true
  unfolding segment_seen
  header_further h ss n e = rw n at (none_further profile01 q [] [] (segment_seen profile01 q h) (seen ss) e)

  patient_among : (h : Text) (ss : List Text) → name h ≡ header → none_broken (walk profile01 q [] [] (seen (listed (h ∷ ss)))) ≡ true
      → 1 ≤ length (of_name patient (h ∷ ss))
  unfolding keep
  patient_among h ss n e =
      let l = patient-follows (header ∷ []) (listed ss) (header_further h (listed ss) n (rw (n, header-listed) at e)) in
      omega (
        arith,
        l,
        keep-fewer (named patient) (λ s. is_listed profile01 (name s)) ss,
        picked_more h (of_name patient ss) (named patient h),
      )

pub patient-stands : (m : Text) → framed m ≡ true → verdict profile01 m ≡ accepted → fewer m (bytes "PID") 1 ≡ false
unfolding verdict checks view
patient-stands m f a =
    let o = header-opens m f in
    let e = accepted-none (checks profile01 m) a in
    le-ltb (length (of_name patient (segments m))) 1
    (rw o.0
    (patient_among (marks_of m) (get_or (segments m) 0 []) (drop 1 (segments m)) o.1 (rw o.0 at e)))
