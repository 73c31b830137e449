-- An entry's promise is made of this.
-- The checks of a message in the order of the walk. Its fault is the first that is broken; it is accepted where none is.
use Rattle.std.specs.Prelude.{ℕ, suc, Bool, true, false, not, ◌&&◌, ◌||◌, length, eqb}
use mathlib.Core.List.{List, [], ◌∷◌, ◌++◌, flat_map}
use Rattle.text.specs.Bytes.{Text, pick, empty, some, keep, same, is_one}
use Rattle.text.specs.Answer.{Answer, first}
use Rattle.text.specs.declared.marks.Marks.{Marks}
use Rattle.text.specs.Marks.{marks_of}
use Rattle.escape.specs.Escape.{bad_escape, too_long}
use Rattle.text.specs.Ranges.{◌to◌, is_within}
use Rattle.frame.specs.Frame.{frame_tests}
use Rattle.profile.specs.Table.{Table, Codes, any, only, Leaf, Usage, O, R, C, of_type, no_such_day, may_follow, may_end}
use Rattle.checks.specs.Place.{Place, place}
use Rattle.checks.specs.View.{Entry, Repetition, Field, Segment, view}

pub record Check : Type 0 where
  pub place : Place
  pub reason : ℕ
  pub broken : Bool

abbrev pub check : Place → ℕ → Bool → Check
check p n b = record { place = p; reason = n; broken = b }

-- a text that is not in its list; a leaf without a list has no such check
abbrev pub list_checks : Place → Codes → Text → List Check
list_checks p any t = []
list_checks p (only codes n) t = check p n (not (empty t) && not (is_one t codes)) ∷ []

-- A LEAF'S OWN RULE: Empty passes unless it is starred; else bad escape, too long, not of its type, no such day, not in its list. (No bytes have no bad escape,
-- are never too long and name no day)
abbrev pub leaf_checks : Marks → Place → Leaf → Text → List Check
leaf_checks q p l t =
    check p 3 (empty t && l.star)
    ∷ check p 6 (bad_escape q t)
    ∷ check p 5 (too_long q l.limit t)
    ∷ check p 7 (not (empty t) && not (of_type l.type t))
    ∷ check p 13 (no_such_day l.type t)
    ∷ list_checks p l.list t

-- the leaves of a filled repetition, rising
abbrev pub repetition_checks : Marks → Text → ℕ → ℕ → Repetition → List Check
repetition_checks q n o f r =
    flat_map
    (λ (e : Entry).
    leaf_checks q (place n o f r.number e.leaf.component e.leaf.subcomponent) e.leaf e.text)
    r.entries

-- the first repetition is one of the filled ones
abbrev pub starts_filled : List Repetition → Bool
starts_filled rs = some (λ (r : Repetition). eqb r.number 1) rs

abbrev pub first_filled : Field → Bool
first_filled v = starts_filled v.filled

-- required, given the segment's listed fields
abbrev pub is_required : Usage → List Field → Bool
is_required O vs = false
is_required R vs = true
is_required (C f) vs = some (λ (v : Field). eqb v.rule.field f && first_filled v) vs

-- a field: too many repetitions, at the first surplus one; missing, at repetition 1; then each filled repetition
abbrev pub field_checks : Marks → Text → ℕ → List Field → Field → List Check
field_checks q n o vs v =
    let f = v.rule.field in
    check (place n o f (suc v.rule.repetitions) 0 0) 4 v.surplus
    ∷ check (place n o f 1 0 0) 3 (is_required v.rule.usage vs && not (first_filled v))
    ∷ flat_map (repetition_checks q n o f) v.filled

-- how many of those are that name
abbrev pub count : Text → List Text → ℕ
count n ns = length (keep (same n) ns)

-- the segments from here on, given the names of the listed ones before and the last of these; then the end
unfoldable pub walk : Table → Marks → List Text → Text → List Segment → List Check
walk T q ns last [] = check (place last (count last ns) 0 0 0 0) 2 (not (may_end T last)) ∷ []
walk T q ns last (s ∷ ss) =
    let n = s.name in
    let o = suc (count n ns) in
    check (place n o 0 0 0 0) 1 (not (may_follow T last n))
    ∷ (flat_map (field_checks q n o s.fields) s.fields ++ walk T q (n ∷ ns) n ss)

-- THE CHECKS
unfoldable pub checks : Table → Text → List Check
checks T m = walk T (marks_of m) [] [] (view T m)

pub data Verdict : Type 0 where
  accepted : Verdict
  fault : Place → ℕ → Verdict

-- the first broken one
unfoldable pub first_broken : List Check → Verdict
first_broken [] = accepted
first_broken (c ∷ cs) = pick c.broken (fault c.place c.reason) (first_broken cs)

-- the verdict on a message whose frame is good
unfoldable pub verdict : Table → Text → Verdict
verdict T m = first_broken (checks T m)

-- JUDGING: 1 to 8, or the verdict
unfoldable pub judge : Table → Text → Answer Verdict
judge T m = first (frame_tests m) (verdict T m)

-- THE CONDITION CODE of a reason: 1, 2 are 100; 3 is 101; 4 to 7 and 13 are 102; 8 is 103; 9 to 12 are 200 to 203. Any other number is no reason and has
-- none: 0
abbrev pub condition : ℕ → ℕ
condition n =
    pick (is_within (1 to 2) n) 100
    (pick (eqb n 3) 101
    (pick (is_within (4 to 7) n || eqb n 13) 102
    (pick (eqb n 8) 103
    (pick (eqb n 9) 200
    (pick (eqb n 10) 201
    (pick (eqb n 11) 202
    (pick (eqb n 12) 203 0)))))))
