-- What holds of each check of a message, and so of its fault, by tests on the table's fields and leaves and by what holds of the segments' names.
use mathlib.Core.Path.{◌≡◌, refl, sym, subst}
use Prim.Native.Nat.{ℕ, zero, suc}
use mathlib.Core.Bool.{Bool, true, ◌&&◌}
use mathlib.Core.List.{List, [], ◌∷◌, map, flat_map}
use Rattle.text.specs.Bytes.{Text, every, keep, same}
use Rattle.text.specs.declared.marks.Marks.{Marks}
use Rattle.text.specs.Marks.{marks_of}
use Rattle.text.proofs.Tests.{both, picks}
use Rattle.text.proofs.Lists.{All, all_map, all_append, all_keep, every-all, all-flat_map}
use Rattle.frame.specs.Segments.{name}
use Rattle.profile.specs.Table.{Table, Codes, any, only, Leaf, Listed, leaf, named_by_field, Row, TypeLeaves, type_leaves, Rule, rules_of, leaves_in, leaves_of}
use Rattle.profile.proofs.Gathered.{gathered-all}
use Rattle.checks.specs.Place.{Place, place, leaf_at, repetitions}
use Rattle.checks.specs.View.{Entry, Repetition, Field, Segment, entries_at, is_filled, filled_up_to, named_in, field_seen, segment_seen, listed_segments, view}
use Rattle.checks.specs.Fault.{Check, list_checks, leaf_checks, repetition_checks, field_checks, count, walk, checks, Verdict, accepted, fault, first_broken, verdict}

-- what is made of each member
all_made : {A B : Type 0} (P : B → Type 0) (f : A → B) → ((x : A) → P (f x)) → (l : List A) → All P (map f l)
all_made P f h [] = tt
all_made P f h (x ∷ l) = (h x, all_made P f h l)

all_made_of : {A B : Type 0} (P : A → Type 0) (Q : B → Type 0) (f : A → B) → ((x : A) → P x → Q (f x)) → (l : List A) → All P l → All Q (map f l)
all_made_of P Q f h [] a = tt
all_made_of P Q f h (x ∷ l) a = (h x a.0, all_made_of P Q f h l a.1)

-- F tests a field's number, L a leaf
module _ (F : ℕ → Bool) (L : Leaf → Bool) where
  -- 1. A TABLE that passes: each of its fields and leaves does
  abbrev listed_passes : Listed → Bool
  listed_passes (leaf l) = L l
  listed_passes (named_by_field f) = true

  abbrev row_passes : Row → Bool
  row_passes r = F r.field && listed_passes r.lists

  abbrev type_passes : TypeLeaves → Bool
  type_passes x = every L x.leaves

  unfoldable pub table_passes : Table → Bool
  table_passes T = every row_passes T.rows && (every type_passes T.types && every L T.otherwise)

  -- 2. So does what judging sees of a message
  abbrev Leaves : List Leaf → Type 0
  Leaves ls = All (λ l. L l ≡ true) ls

  abbrev RulePasses : Rule → Type 0
  RulePasses u = All (λ x. listed_passes x ≡ true) u.lists × (F u.field ≡ true)

  abbrev EntryPasses : Entry → Type 0
  EntryPasses e = L e.leaf ≡ true

  abbrev RepetitionPasses : Repetition → Type 0
  RepetitionPasses r = All EntryPasses r.entries × ((i : ℕ) × (r.number ≡ suc i))

  abbrev FieldPasses : Field → Type 0
  FieldPasses v = (F v.rule.field ≡ true) × All RepetitionPasses v.filled

  named-leaves : (xs : List TypeLeaves) (otherwise : List Leaf) (t : Text) → All (λ x. type_passes x ≡ true) xs → Leaves otherwise
      → Leaves (type_leaves xs otherwise t)
  unfolding type_leaves
  named-leaves [] otherwise t a h = h
  named-leaves (x ∷ xs) otherwise t a h =
      picks Leaves (same x.type t) (every-all L x.leaves a.0) (named-leaves xs otherwise t a.1 h)

  filled_pass : (read : ℕ → List Entry) (k n : ℕ) → ((r : ℕ) → All EntryPasses (read r)) → All RepetitionPasses (filled_up_to read (suc k) n)
  unfolding filled_up_to
  filled_pass read k zero h = tt
  filled_pass read k (suc n) h =
      let rest = filled_pass read (suc k) n h in
      picks (All RepetitionPasses) (is_filled (read (suc k))) ((h (suc k), (k, refl)), rest) rest

  module _ (T : Table) (ok : table_passes T ≡ true) where
    parts : (every row_passes T.rows ≡ true) × ((every type_passes T.types ≡ true) × (every L T.otherwise ≡ true))
    unfolding table_passes
    parts =
        let w = both (every row_passes T.rows) (every type_passes T.types && every L T.otherwise) ok in
        (w.0, both (every type_passes T.types) (every L T.otherwise) w.1)

    rules_pass : (n : Text) → All RulePasses (rules_of T n)
    unfolding rules_of
    rules_pass n =
        let named : Row → Bool = λ r. same r.segment n in
        let Passes : Row → Type 0 = λ r. (listed_passes r.lists ≡ true) × (F r.field ≡ true) in
        gathered-all (λ f x. listed_passes x ≡ true) (λ f u n. F f ≡ true) (keep named T.rows)
        (all_keep Passes named T.rows
        (all_map (λ r. row_passes r ≡ true) Passes
        (λ r e. let w = both (F r.field) (listed_passes r.lists) e in (w.1, w.0)) T.rows
        (every-all row_passes T.rows parts.0)))

    listed-leaves : (names : ℕ → Text) (x : Listed) → listed_passes x ≡ true → Leaves (leaves_in T names x)
    listed-leaves names (leaf l) e = (e, tt)
    listed-leaves names (named_by_field f) e =
        named-leaves T.types T.otherwise (names f)
        (every-all type_passes T.types parts.1.0) (every-all L T.otherwise parts.1.1)

    leaves_pass : (names : ℕ → Text) (u : Rule) → RulePasses u → Leaves (leaves_of T names u)
    leaves_pass names u h =
        all-flat_map (λ l. L l ≡ true) (leaves_in T names) u.lists
        (all_map (λ x. listed_passes x ≡ true) (λ x. Leaves (leaves_in T names x)) (listed-leaves names) u.lists h.0)

    field-passes : (q : Marks) (s : Text) (u : Rule) → RulePasses u → FieldPasses (field_seen T q s u)
    unfolding field_seen
    field-passes q s u h =
        let ls = leaves_of T (named_in q s) u in (
          h.1,
          filled_pass (entries_at q s u.field ls) 0 (repetitions q s u.field)
              (λ r.
              all_made_of (λ l. L l ≡ true) EntryPasses (λ (l : Leaf). record { leaf = l; text = leaf_at q s u.field r l.component l.subcomponent })
              (λ l e. e) ls (leaves_pass (named_in q s) u h)),
        )

    fields_pass : (q : Marks) (s : Text) → All FieldPasses (segment_seen T q s).fields
    unfolding segment_seen
    fields_pass q s = all_made_of RulePasses FieldPasses (field_seen T q s) (field-passes q s) (rules_of T (name s)) (rules_pass (name s))

  -- 3. N is of a segment's name, C of a check's place and reason: each kind of check has its own place and its own reason
  module _ (N : Text → Type 0) (C : Place → ℕ → Type 0) where
    pub record Kinds : Type 0 where
      pub out_of_place_lem : (n : Text) (o : ℕ) → N n → C (place n o 0 0 0 0) 1
      pub end : (n : Text) (o : ℕ) → N n → C (place n o 0 0 0 0) 2
      pub missing : (n : Text) (o f : ℕ) → N n → F f ≡ true → C (place n (suc o) f 1 0 0) 3
      pub surplus : (n : Text) (o f r : ℕ) → N n → F f ≡ true → C (place n (suc o) f (suc r) 0 0) 4
      pub leaf :
          (n : Text) (o f r : ℕ) (l : Leaf) → N n → F f ≡ true → L l ≡ true
          → All (C (place n (suc o) f (suc r) l.component l.subcomponent)) (3 ∷ 6 ∷ 5 ∷ 7 ∷ 13 ∷ [])
      pub list :
          (n : Text) (o f r : ℕ) (l : Leaf) → N n → F f ≡ true → L l ≡ true → (codes : List Text) (why : ℕ) → l.list ≡ only codes why
          → C (place n (suc o) f (suc r) l.component l.subcomponent) why

    abbrev Holds : Check → Type 0
    Holds c = C c.place c.reason

    list_all : (p : Place) (c : Codes) (t : Text) → ((codes : List Text) (why : ℕ) → c ≡ only codes why → C p why) → All Holds (list_checks p c t)
    list_all p any t h = tt
    list_all p (only codes why) t h = (h codes why refl, tt)

    abbrev SegmentPasses : Segment → Type 0
    SegmentPasses s = N s.name × All FieldPasses s.fields

    module _ (k : Kinds) (q : Marks) where
      -- the checks of a leaf of repetition i + 1
      leaf-all : (n : Text) (o f i : ℕ) → N n → F f ≡ true → (e : Entry) → EntryPasses e
          → All Holds (leaf_checks q (place n (suc o) f (suc i) e.leaf.component e.leaf.subcomponent) e.leaf e.text)
      leaf-all n o f i h g e x =
          let l = e.leaf in
          let w = k.leaf n o f i l h g x in
          (w.0, (w.1.0, (w.1.1.0, (w.1.1.1.0, (w.1.1.1.1.0, list_all (place n (suc o) f (suc i) l.component l.subcomponent) l.list e.text (k.list n o f i l h g x))))))

      repetition-all : (n : Text) (o f : ℕ) → N n → F f ≡ true → (r : Repetition) → RepetitionPasses r → All Holds (repetition_checks q n (suc o) f r)
      repetition-all n o f h g r a =
          let made : Entry → List Check =
          λ e. leaf_checks q (place n (suc o) f r.number e.leaf.component e.leaf.subcomponent) e.leaf e.text in
          all-flat_map Holds made r.entries
          (all_map EntryPasses (λ e. All Holds (made e)) (λ e x.
          subst (λ k. All Holds (leaf_checks q (place n (suc o) f k e.leaf.component e.leaf.subcomponent) e.leaf e.text)) (sym a.1.1)
          (leaf-all n o f a.1.0 h g e x)) r.entries a.0)

      field-all : (n : Text) (o : ℕ) → N n → (vs : List Field) (v : Field) → FieldPasses v → All Holds (field_checks q n (suc o) vs v)
      field-all n o h vs v a =
          let f = v.rule.field in (
            k.surplus n o f v.rule.repetitions h a.0,
            (
              k.missing n o f h a.0,
              all-flat_map Holds (repetition_checks q n (suc o) f) v.filled
                  (all_map RepetitionPasses (λ r. All Holds (repetition_checks q n (suc o) f r)) (repetition-all n o f h a.0) v.filled a.1),
            ),
          )

      walk-all : (T : Table) (ns : List Text) (last : Text) (ss : List Segment) → N last → All SegmentPasses ss → All Holds (walk T q ns last ss)
      unfolding walk
      walk-all T ns last [] h a = (k.end last (count last ns) h, tt)
      walk-all T ns last (s ∷ ss) h a =
          let n = s.name in
          let o = suc (count n ns) in (
            k.out_of_place_lem n o a.0.0,
            all_append Holds (flat_map (field_checks q n o s.fields) s.fields) (walk T q (n ∷ ns) n ss)
                (all-flat_map Holds (field_checks q n o s.fields) s.fields
                (all_map FieldPasses (λ v. All Holds (field_checks q n o s.fields v)) (field-all n (count n ns) a.0.0 s.fields) s.fields a.0.1))
                (walk-all T (n ∷ ns) n ss a.0.0 a.1),
          )

    -- SO OF EACH CHECK; no bytes stand for a name before the first segment
    checks-all : (T : Table) → table_passes T ≡ true → Kinds → N [] → ((s : Text) → N (name s)) → (m : Text) → All Holds (checks T m)
    unfolding checks view segment_seen
    checks-all T ok k none h m =
        walk-all k (marks_of m) T [] [] (view T m) none
        (all_made SegmentPasses (segment_seen T (marks_of m)) (λ s. (h s, fields_pass T ok (marks_of m) s)) (listed_segments T m))

    -- and so of the fault
    abbrev pub OfFault : Verdict → Type 0
    OfFault accepted = Unit
    OfFault (fault p n) = C p n

    broken-all : (cs : List Check) → All Holds cs → OfFault (first_broken cs)
    unfolding first_broken
    broken-all [] a = tt
    broken-all (c ∷ cs) a = picks OfFault c.broken a.0 (broken-all cs a.1)

    pub verdict-all : (T : Table) → table_passes T ≡ true → Kinds → N [] → ((s : Text) → N (name s)) → (m : Text) → OfFault (verdict T m)
    unfolding verdict
    verdict-all T ok k none h m = broken-all (checks T m) (checks-all T ok k none h m)
