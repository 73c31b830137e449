-- There is a verdict on every message: the place of a fault has a name, so the code's answer can hold it.
use mathlib.Core.Path.{◌≡◌, refl, ap, ◌∙◌}
use Prim.Native.Nat.{ℕ, suc}
use mathlib.Core.Bool.{true}
use mathlib.Core.List.{List, [], ◌∷◌, map, flat_map}
use lib.ListN.{get_or, drop}
use Rattle.std.proofs.Common.{Option, Some, None, Result, Ok, Err}
use Rattle.text.specs.Bytes.{Text, keep}
use Rattle.text.specs.declared.refusal.Refusal.{Refusal}
use Rattle.text.specs.Answer.{Answer, refused, given}
use Rattle.text.specs.declared.marks.Marks.{Marks}
use Rattle.text.specs.Marks.{marks_of}
use Rattle.text.proofs.Tests.{not-true, both}
use Rattle.text.proofs.Lists.{All, all_append, all_keep, all_map, all-flat_map, every-all}
use Rattle.frame.specs.Segments.{segments, name, is_name}
use Rattle.frame.specs.Frame.{opens, is_segment, framed}
use Rattle.frame.proofs.Frame.{framed-tests}
use Rattle.frame.proofs.Names.{three}
use Rattle.profile.specs.Table.{Table, Codes, any, only, is_listed}
use Rattle.profile.specs.Profile.{profile01}
use Rattle.reader.specs.declared.Place as code-place
use Rattle.reader.specs.declared.Fault as code-fault
use Rattle.reader.specs.Place.{Place, place}
use Rattle.reader.specs.View.{Entry, Repetition, Field, Segment, segment_seen, view}
use Rattle.reader.specs.Fault.{Check, list_checks, leaf_checks, repetition_checks, field_checks, count, walk, checks, Verdict, accepted, fault, judge}
use Rattle.reader.specs.Told.{place_of, verdict_of}
use Rattle.reader.specs.Promise.{Judges}
use Rattle.reader.proofs.Accepted.{judged-fault}
use Rattle.frame.proofs.Header.{header-opens}
use Rattle.reader.proofs.Patient.{header-listed}
use Rattle.parts.proofs.Members.{append-all, all_of}

-- a segment has a name; a check is at a place that has one
abbrev HasName : Text → Type 0
HasName s = is_name (name s) ≡ true

abbrev Named : Check → Type 0
Named c = is_name c.place.name ≡ true

-- 1. The checks of a segment are at places of its own name
list-named : (p : Place) → is_name p.name ≡ true → (c : Codes) (t : Text) → All Named (list_checks p c t)
list-named p ok any t = tt
list-named p ok (only codes k) t = (ok, tt)

module _ (q : Marks) (n : Text) (o : ℕ) (ok : is_name n ≡ true) where
  repetition-named : (f : ℕ) (r : Repetition) → All Named (repetition_checks q n o f r)
  repetition-named f r =
      all-flat_map Named
      (λ (e : Entry). leaf_checks q (place n o f r.number e.leaf.component e.leaf.subcomponent) e.leaf e.text)
      r.entries
      (all_of _
      (λ e. (ok, (ok, (ok, (ok, (ok, list-named (place n o f r.number e.leaf.component e.leaf.subcomponent) ok e.leaf.list e.text))))))
      r.entries)

  field-named : (vs : List Field) (v : Field) → All Named (field_checks q n o vs v)
  field-named vs v =
      (ok, (ok, all-flat_map Named (repetition_checks q n o v.rule.field) v.filled (all_of _ (repetition-named v.rule.field) v.filled)))

  fields-named : (vs : List Field) → All Named (flat_map (field_checks q n o vs) vs)
  fields-named vs = all-flat_map Named (field_checks q n o vs) vs (all_of _ (field-named vs) vs)

-- 2. So are all checks of a walk, where a listed segment stands before it or at its head: the check of the end is at the last one
module _ (T : Table) (q : Marks) where
  walk_step : (ns : List Text) (last : Text) (s : Segment) (ss : List Segment) → is_name s.name ≡ true
      → All Named (walk T q (s.name ∷ ns) s.name ss) → All Named (walk T q ns last (s ∷ ss))
  unfolding walk
  walk_step ns last s ss ok rest =
      let o = suc (count s.name ns) in (
        ok,
        all_append Named (flat_map (field_checks q s.name o s.fields) s.fields) (walk T q (s.name ∷ ns) s.name ss)
            (fields-named q s.name o ok s.fields) rest,
      )

  walk-named : (ns : List Text) (last : Text) (ss : List Text) → is_name last ≡ true → All HasName ss
      → All Named (walk T q ns last (map (segment_seen T q) ss))
  unfolding walk segment_seen
  walk-named ns last [] ok a = (ok, tt)
  walk-named ns last (s ∷ ss) ok a =
      walk_step ns last (segment_seen T q s) (map (segment_seen T q) ss) a.0 (walk-named (name s ∷ ns) (name s) ss a.0 a.1)

  seen-named : (s : Text) (ss : List Text) → All HasName (s ∷ ss) → All Named (walk T q [] [] (map (segment_seen T q) (s ∷ ss)))
  unfolding segment_seen
  seen-named s ss a =
      walk_step [] [] (segment_seen T q s) (map (segment_seen T q) ss) a.0 (walk-named (name s ∷ []) (name s) ss a.0 a.1)

-- 3. A message with a good frame has segments with names, and its listed ones begin with the header
module _ (m : Text) (good : framed m ≡ true) where
  segments-named : All HasName (segments m)
  segments-named =
      all_map (λ s. is_segment (marks_of m) s ≡ true) HasName
      (λ s e. (both (is_name (name s)) (opens (marks_of m) (drop 3 s)) e).0)
      (segments m) (every-all (is_segment (marks_of m)) (segments m) (framed-tests m good).formed)

  abbrev listed : List Text → List Text
  listed ss = keep (λ s. is_listed profile01 (name s)) ss

  listed-first : listed (segments m) ≡ get_or (segments m) 0 [] ∷ listed (drop 1 (segments m))
  unfolding keep
  listed-first =
      let opening = header-opens m good in
      ap listed opening.0 ∙ rw (opening.1, header-listed)

  checks-named : All Named (checks profile01 m)
  unfolding checks view
  checks-named =
      let all = all_keep HasName (λ s. is_listed profile01 (name s)) (segments m) segments-named in
      rw listed-first
      (seen-named profile01 (marks_of m) (get_or (segments m) 0 []) (listed (drop 1 (segments m))) (rw listed-first at all))

-- 4. A NAME has three bytes, so the code has that place
name-three : (n : Text) → is_name n ≡ true → three n ≡ n
name-three [] ok = not-true ok
name-three (a ∷ []) ok = not-true ok
name-three (a ∷ b ∷ []) ok = not-true ok
name-three (a ∷ b ∷ c ∷ []) ok = refl
name-three (a ∷ b ∷ c ∷ d ∷ t) ok = not-true ok

abbrev place_by : Place → code-place.Place
place_by p =
    record {
      first = get_or p.name 0 0;
      second = get_or p.name 1 0;
      third = get_or p.name 2 0;
      occurrence = p.occurrence;
      field = p.field;
      repetition = p.repetition;
      component = p.component;
      subcomponent = p.subcomponent;
    }

place_back : (p : Place) → is_name p.name ≡ true → place_of (place_by p) ≡ p
place_back p ok =
    ap (λ (n : Text). place n p.occurrence p.field p.repetition p.component p.subcomponent) (name-three p.name ok)

-- a fault is at a place that has a name
fault-named : (m : Text) (p : Place) (n : ℕ) → judge profile01 m ≡ given (fault p n) → is_name p.name ≡ true
fault-named m p n e =
    let found = judged-fault profile01 m p n e in
    let first = found.1.first in
    let all = rw first.stands at (checks-named m found.0) in
    rw (← found.1.place) (append-all Named first.before (found.1.found ∷ first.after) all).1.0

-- THE VERDICT
abbrev verdict_by : Answer Verdict → Result (Option code-fault.Fault) Refusal
verdict_by (refused r) = Err r
verdict_by (given accepted) = Ok None
verdict_by (given (fault p n)) = Ok (Some (record { place = place_by p; reason = n }))

verdict_back : (m : Text) (a : Answer Verdict) → judge profile01 m ≡ a → verdict_of (verdict_by a) ≡ a
verdict_back m (refused r) e = refl
verdict_back m (given accepted) e = refl
verdict_back m (given (fault p n)) e = ap (λ (p : Place). given (fault p n)) (place_back p (fault-named m p n e))

pub judged : (m : Text) → (r : Result (Option code-fault.Fault) Refusal) × Judges profile01 m r
judged m = (verdict_by (judge profile01 m), verdict_back m (judge profile01 m) refl)
