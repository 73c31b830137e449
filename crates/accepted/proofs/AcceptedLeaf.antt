-- In an accepted message each listed leaf of each listed segment keeps its rule, and a required field has the leaves that it must have.
use mathlib.Core.Path.{◌≡◌, refl, sym, subst, ◌∙◌}
use Prim.Native.Nat.{ℕ, zero, suc, ◌+◌, ◌≤◌, ◌<◌}
use native.Mathlib.Omega.{arith}
use mathlib.Core.Bool.{Bool, true, false, not, ◌&&◌}
use mathlib.Core.List.{List, [], ◌∷◌, map, flat_map}
use lib.ListN.{length}
use lib.Dec.{ltb}
use borrow.Author.Tests as tests
use borrow.Author.Tests.{le-ltb, ltb-true, ltb-false}
use Rattle.text.specs.Bytes.{Text, pick, empty, some, is_one}
use Rattle.text.specs.declared.marks.Marks.{Marks}
use Rattle.text.specs.Marks.{marks_of}
use Rattle.escape.specs.Escape.{bad_escape, resolved, too_long}
use Rattle.text.proofs.Tests.{not-true, same_true}
use Rattle.text.proofs.Lists.{All, all_map, all_both, all_keep, all-kept, every-all, or-none}
use Rattle.frame.specs.Segments.{segments, name, named, of_name, occurrence, fewer}
use Rattle.profile.specs.Table.{Table, Codes, any, only, Leaf, Rule, Usage, R, of_type, no_such_day, is_listed, rules_of, leaves_of}
use Rattle.checks.specs.Place.{Place, place, leaf_at, repetitions}
use Rattle.checks.specs.View.{Entry, Repetition, Field, Segment, entries_at, is_filled, filled_up_to, named_in, field_seen, segment_seen, listed_segments, view}
use Rattle.checks.specs.Fault.{Check, list_checks, leaf_checks, repetition_checks, starts_filled, first_filled, is_required, field_checks, count, walk, checks, accepted, verdict}
use Rattle.parts.proofs.Members.{append-all, keep-step, keep_all, some-map, map-all, flat_map-all, member-all}
use Rattle.checks.proofs.Leaf.{leaf_nought, leaf-beyond}
use Rattle.checks.proofs.Filled.{late-numbers}
use Rattle.profile.proofs.Days.{empty_day}
use Rattle.escape.proofs.Escapes.{bad-none, resolved-length}
use Rattle.accepted.proofs.Accepted.{accepted-none}

-- 1. A leaf's rule
abbrev InList : Codes → Text → Type 0
InList any t = Unit
InList (only codes n) t = not (empty t) && not (is_one t codes) ≡ false

pub record Kept (q : Marks) (l : Leaf) (t : Text) : Type 0 where
  pub good : bad_escape q t ≡ false
  pub short : too_long q l.limit t ≡ false
  pub typed : not (empty t) && not (of_type l.type t) ≡ false
  pub dated : no_such_day l.type t ≡ false
  pub coded : InList l.list t

-- Empty keeps it
empty_in : (c : Codes) → InList c []
empty_in any = tt
empty_in (only codes n) = refl

empty-kept : (q : Marks) (l : Leaf) (t : Text) → empty t ≡ true → Kept q l t
empty-kept q l [] e = record { good = bad-none q; short = le-ltb l.limit (length (resolved q [])) (omega (arith, resolved-length q [])); typed = refl; dated = empty_day l.type [] refl; coded = empty_in l.list }
empty-kept q l (b ∷ t) e = not-true e

-- in a filled repetition a starred one is not Empty
abbrev Judged : Marks → Leaf → Text → Type 0
Judged q l t = Kept q l t × (empty t && l.star ≡ false)

abbrev Fine : Check → Type 0
Fine c = c.broken ≡ false

list-judged : (p : Place) (c : Codes) (t : Text) → All Fine (list_checks p c t) → InList c t
list-judged p any t a = tt
list-judged p (only codes n) t a = a.0

leaf-judged : (q : Marks) (n : Text) (o f k : ℕ) (e : Entry)
    → All Fine (leaf_checks q (place n o f k e.leaf.component e.leaf.subcomponent) e.leaf e.text) → Judged q e.leaf e.text
leaf-judged q n o f k e a = (record { good = a.1.0; short = a.1.1.0; typed = a.1.1.1.0; dated = a.1.1.1.1.0; coded = list-judged (place n o f k e.leaf.component e.leaf.subcomponent) e.leaf.list e.text a.1.1.1.1.1 }, a.0)

abbrev EntriesJudged : Marks → List Entry → Type 0
EntriesJudged q es = All (λ (e : Entry). Judged q e.leaf e.text) es

-- 2. The checks of a message, down to its leaves
abbrev FieldJudged : Marks → List Field → Field → Type 0
FieldJudged q vs v =
    (is_required v.rule.usage vs && not (first_filled v) ≡ false) × All (λ (r : Repetition). EntriesJudged q r.entries) v.filled

repetition-judged : (q : Marks) (n : Text) (o f : ℕ) (r : Repetition) → All Fine (repetition_checks q n o f r) → EntriesJudged q r.entries
repetition-judged q n o f r a =
    let cs : Entry → List Check = λ e. leaf_checks q (place n o f r.number e.leaf.component e.leaf.subcomponent) e.leaf e.text in
    all_map (λ e. All Fine (cs e)) (λ e. Judged q e.leaf e.text) (leaf-judged q n o f r.number) r.entries
    (flat_map-all Fine cs r.entries a)

field-judged : (q : Marks) (n : Text) (o : ℕ) (vs : List Field) (v : Field) → All Fine (field_checks q n o vs v) → FieldJudged q vs v
field-judged q n o vs v a =
    let cs : Repetition → List Check = repetition_checks q n o v.rule.field in (
      a.1.0,
      all_map (λ r. All Fine (cs r)) (λ r. EntriesJudged q r.entries) (repetition-judged q n o v.rule.field) v.filled
          (flat_map-all Fine cs v.filled a.1.1),
    )

abbrev SegmentJudged : Marks → Segment → Type 0
SegmentJudged q s = All (FieldJudged q s.fields) s.fields

walk-judged : (T : Table) (q : Marks) (ns : List Text) (last : Text) (ss : List Segment) → All Fine (walk T q ns last ss) → All (SegmentJudged q) ss
unfolding walk
walk-judged T q ns last [] a = tt
walk-judged T q ns last (s ∷ ss) a =
    let n = s.name in
    let cs : Field → List Check = field_checks q n (suc (count n ns)) s.fields in
    let h = append-all Fine (flat_map cs s.fields) (walk T q (n ∷ ns) n ss) a.1 in (
      all_map (λ v. All Fine (cs v)) (FieldJudged q s.fields) (field-judged q n (suc (count n ns)) s.fields) s.fields
          (flat_map-all Fine cs s.fields h.0),
      walk-judged T q (n ∷ ns) n ss h.1,
    )

-- each listed segment
abbrev SeenJudged : Table → Marks → Text → Type 0
SeenJudged T q s =
    All (λ (u : Rule). FieldJudged q (map (field_seen T q s) (rules_of T (name s))) (field_seen T q s u)) (rules_of T (name s))

segments-judged : (T : Table) (m : Text) → verdict T m ≡ accepted
    → All (λ s. is_listed T (name s) ≡ true → SeenJudged T (marks_of m) s) (segments m)
unfolding verdict checks view segment_seen
segments-judged T m ok =
    let q = marks_of m in
    let fine : All Fine (checks T m) =
    all_map (λ (c : Check). not c.broken ≡ true) Fine (λ c e. tests.not-true c.broken e) (checks T m)
    (every-all (λ (c : Check). not c.broken) (checks T m) (accepted-none (checks T m) ok)) in
    keep_all (SeenJudged T q) (λ s. is_listed T (name s)) (segments m)
    (all_map (λ s. SegmentJudged q (segment_seen T q s)) (SeenJudged T q)
    (λ s a. map-all (FieldJudged q (map (field_seen T q s) (rules_of T (name s)))) (field_seen T q s) (rules_of T (name s)) a)
    (listed_segments T m)
    (map-all (SegmentJudged q) (segment_seen T q) (listed_segments T m)
    (walk-judged T q [] [] (view T m) fine)))

-- 3. The repetitions of a field
module _ (q : Marks) (read : ℕ → List Entry) where
  abbrev FilledJudged : ℕ → Type 0
  FilledJudged r = is_filled (read r) ≡ true → EntriesJudged q (read r)

  filled-judged : (k n : ℕ) → All (λ (r : Repetition). EntriesJudged q r.entries) (filled_up_to read k n) → (i : ℕ) → i < n → FilledJudged (k + i)
  unfolding filled_up_to
  filled-judged k zero a i l = absurd (omega arith)
  filled-judged k (suc n) a zero l =
      let e : k + 0 ≡ k = omega arith in
      rw e (keep-step (λ (x : Repetition). EntriesJudged q x.entries) (record { number = k; entries = read k }) (filled_up_to read (suc k) n) (is_filled (read k)) a).0
  filled-judged k (suc n) a (suc i) l =
      let e : k + suc i ≡ suc k + i = omega arith in
      let rest = (keep-step (λ (x : Repetition). EntriesJudged q x.entries) (record { number = k; entries = read k }) (filled_up_to read (suc k) n) (is_filled (read k)) a).1 in
      rw e (filled-judged (suc k) n rest i (omega arith))

  -- the first one is filled where one of those filled is number 1
  first_step : (es : List Entry) (rs : List Repetition) (b : Bool) → starts_filled rs ≡ false
      → starts_filled (pick b (record { number = 1; entries = es } ∷ rs) rs) ≡ true → b ≡ true
  first_step es rs true none e = refl
  first_step es rs false none e = sym none ∙ e

  first-filled : (n : ℕ) → starts_filled (filled_up_to read 1 n) ≡ true → (is_filled (read 1) ≡ true) × (0 < n)
  unfolding filled_up_to some
  first-filled zero e = not-true e
  first-filled (suc n) e =
      (first_step (read 1) (filled_up_to read 2 n) (is_filled (read 1)) (late-numbers 2 n read (omega arith)) e, omega arith)

-- 4. The leaves of a repetition
module _ (q : Marks) (s : Text) (f r : ℕ) where
  abbrev text_of : Leaf → Text
  text_of l = leaf_at q s f r l.component l.subcomponent

  abbrev LeafKept : Leaf → Type 0
  LeafKept l = Kept q l (text_of l)

  none_kept : (ls : List Leaf) → is_filled (entries_at q s f ls r) ≡ false → All LeafKept ls
  unfolding some
  none_kept [] e = tt
  none_kept (l ∷ ls) e =
      let x = text_of l in
      let h = or-none (not (empty x)) (is_filled (entries_at q s f ls r)) e in
      (empty-kept q l x (tests.not-false (empty x) h.0), none_kept ls h.1)

  entries-all : (ls : List Leaf) → EntriesJudged q (entries_at q s f ls r) → All (λ (l : Leaf). Judged q l (text_of l)) ls
  entries-all ls a =
      map-all (λ (e : Entry). Judged q e.leaf e.text) (λ (l : Leaf). record { leaf = l; text = text_of l }) ls a

  leaves_kept : (ls : List Leaf) (b : Bool) → is_filled (entries_at q s f ls r) ≡ b → (b ≡ true → EntriesJudged q (entries_at q s f ls r)) → All LeafKept ls
  leaves_kept ls true e a = all_map (λ (l : Leaf). Judged q l (text_of l)) LeafKept (λ l k. k.0) ls (entries-all ls (a refl))
  leaves_kept ls false e a = none_kept ls e

  -- where nothing stands
  nothing-kept : (ls : List Leaf) → ((c b : ℕ) → leaf_at q s f r c b ≡ []) → All LeafKept ls
  nothing-kept [] h = tt
  nothing-kept (l ∷ ls) h = (empty-kept q l (text_of l) (rw (h l.component l.subcomponent)), nothing-kept ls h)

-- 5. The leaves of a field
starred-some : (b c : Bool) → b && c ≡ false → c ≡ true → b ≡ false
starred-some true c h e = not-true (sym h ∙ e)
starred-some false c h e = refl

required-filled : (x : Usage) (vs : List Field) (b : Bool) → is_required x vs && not b ≡ false → x ≡ R → b ≡ true
required-filled x vs true h e = refl
required-filled x vs false h e = not-true (sym (rw e at h))

-- what a listed field of a segment keeps
pub record FieldKept (T : Table) (q : Marks) (s : Text) (u : Rule) : Type 0 where
  -- the rule of each listed leaf, in each repetition
  pub kept : (r : ℕ) → All (λ (l : Leaf). Kept q l (leaf_at q s u.field r l.component l.subcomponent)) (leaves_of T (named_in q s) u)
  -- where it is required, its first repetition has its starred leaves, and some leaf
  pub starred : u.usage ≡ R
      → All (λ (l : Leaf). l.star ≡ true → empty (leaf_at q s u.field 1 l.component l.subcomponent) ≡ false) (leaves_of T (named_in q s) u)
  pub filled : u.usage ≡ R
      → some (λ (l : Leaf). not (empty (leaf_at q s u.field 1 l.component l.subcomponent))) (leaves_of T (named_in q s) u) ≡ true

module _ (T : Table) (q : Marks) (s : Text) (u : Rule) where
  abbrev f : ℕ
  f = u.field

  abbrev ls : List Leaf
  ls = leaves_of T (named_in q s) u

  abbrev n : ℕ
  n = repetitions q s f

  module _ (judged : (i : ℕ) → i < n → FilledJudged q (entries_at q s f ls) (1 + i)) where
    kept_by : (i : ℕ) (b : Bool) → ltb i n ≡ b → All (LeafKept q s f (suc i)) ls
    kept_by i true e =
        let z : 1 + i ≡ suc i = omega arith in
        let j : FilledJudged q (entries_at q s f ls) (suc i) = rw z at (judged i (ltb-true i n e)) in
        leaves_kept q s f (suc i) ls (is_filled (entries_at q s f ls (suc i))) refl j
    kept_by i false e = nothing-kept q s f (suc i) ls (λ c b. leaf-beyond q s f i c b (ltb-false i n e))

    all_kept_in : (r : ℕ) → All (LeafKept q s f r) ls
    all_kept_in zero = nothing-kept q s f 0 ls (λ c b. leaf_nought q s f c b)
    all_kept_in (suc i) = kept_by i (ltb i n) refl

    module _ (e : starts_filled (filled_up_to (entries_at q s f ls) 1 n) ≡ true) where
      abbrev first : (is_filled (entries_at q s f ls 1) ≡ true) × (0 < n)
      first = first-filled q (entries_at q s f ls) n e

      has_starred : All (λ (l : Leaf). l.star ≡ true → empty (text_of q s f 1 l) ≡ false) ls
      has_starred =
          all_map (λ l. Judged q l (text_of q s f 1 l)) (λ l. l.star ≡ true → empty (text_of q s f 1 l) ≡ false)
          (λ l w a. starred-some (empty (text_of q s f 1 l)) l.star w.1 a) ls
          (entries-all q s f 1 ls (judged 0 first.1 first.0))

      has_some : some (λ (l : Leaf). not (empty (text_of q s f 1 l))) ls ≡ true
      has_some = sym (some-map (λ (x : Entry). not (empty x.text)) (λ (l : Leaf). record { leaf = l; text = text_of q s f 1 l }) ls) ∙ first.0

  field-kept : (vs : List Field) → FieldJudged q vs (field_seen T q s u) → FieldKept T q s u
  unfolding field_seen
  field-kept vs w =
      let judged = filled-judged q (entries_at q s f ls) 1 n w.1 in
      record {
        kept = all_kept_in judged;
        starred = λ e. has_starred judged (required-filled u.usage vs (starts_filled (filled_up_to (entries_at q s f ls) 1 n)) w.0 e);
        filled = λ e. has_some judged (required-filled u.usage vs (starts_filled (filled_up_to (entries_at q s f ls) 1 n)) w.0 e);
      }

-- 6. THE LAW, for each listed segment of an accepted message, and for one by its name and occurrence
module _ (T : Table) (m : Text) (ok : verdict T m ≡ accepted) where
  abbrev SegmentKept : Text → Type 0
  SegmentKept s = All (FieldKept T (marks_of m) s) (rules_of T (name s))

  pub accepted-segments : All (λ s. is_listed T (name s) ≡ true → SegmentKept s) (segments m)
  accepted-segments =
      let q = marks_of m in
      all_map (λ s. is_listed T (name s) ≡ true → SeenJudged T q s) (λ s. is_listed T (name s) ≡ true → SegmentKept s)
      (λ s a e.
      let vs = map (field_seen T q s) (rules_of T (name s)) in
      all_map (λ (u : Rule). FieldJudged q vs (field_seen T q s u)) (FieldKept T q s) (λ u w. field-kept T q s u vs w) (rules_of T (name s)) (a e))
      (segments m) (segments-judged T m ok)

  module _ (n : Text) (listed : is_listed T n ≡ true) (o : ℕ) (low : 1 ≤ o) (there : fewer m n o ≡ false) where
    pub accepted-fields : All (FieldKept T (marks_of m) (occurrence m n o)) (rules_of T n)
    accepted-fields =
        let q = marks_of m in
        member-all (λ s. All (FieldKept T q s) (rules_of T n)) (of_name n (segments m))
        (all_map (λ s. (is_listed T (name s) ≡ true → SegmentKept s) × (named n s ≡ true)) (λ s. All (FieldKept T q s) (rules_of T n))
        (λ s w. subst (λ (x : Text). is_listed T x ≡ true → All (FieldKept T q s) (rules_of T x)) (same_true (name s) n w.1) w.0 listed)
        (of_name n (segments m))
        (all_both (λ s. is_listed T (name s) ≡ true → SegmentKept s) (λ s. named n s ≡ true) (of_name n (segments m))
        (all_keep (λ s. is_listed T (name s) ≡ true → SegmentKept s) (named n) (segments m) accepted-segments)
        (all-kept (named n) (segments m))))
        o low (ltb-false (length (of_name n (segments m))) o there)
