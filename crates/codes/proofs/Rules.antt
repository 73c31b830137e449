-- What a table says of a segment's name and of a type's, told by the numbers of the rows.
use mathlib.Core.Path.{◌≡◌, refl, sym, ap, subst, ◌∙◌}
use Prim.Native.Nat.{ℕ, suc, ◌+◌, ◌-◌, ◌≤◌, ◌<◌}
use native.Mathlib.Omega.{arith}
use mathlib.Core.Bool.{Bool, true, false, not, ◌&&◌, ◌||◌}
use mathlib.Core.List.{List, [], ◌∷◌, ◌++◌, map, append-nil}
use lib.ListN.{length, get_or, drop}
use lib.Seq.{get_or-drop}
use lib.Dec.{eqb}
use borrow.Author.Tests as tests
use borrow.Author.Tests.{ne_eqb, eqb-true}
use Rattle.text.specs.Bytes.{Text, pick, every, some, keep, same}
use Rattle.text.proofs.Tests.{both, same_true}
use Rattle.text.proofs.Lists.{or_assoc}
use Rattle.profile.specs.Table.{Leaf, Row, Table, type_leaves, is_listed, gathered, rules_of}
use Rattle.profile.specs.Lists.{value-types}
use Rattle.profile.specs.Numbers.{segment_names, leaf_of, row_of, rows_within, begin, under, leaves_under, number_in, segment_number, type_number, types_from, segments_from, table_of, AreTable, row_size, field_column, sure_column, first_type, no_type}
use Rattle.profile.specs.Order.{of_field, guides, Sound}
use Rattle.profile.specs.Codes.{HasLists}
use Rattle.codes.specs.Inner.{Ascends, SureUpTo, Under, Lists, leaves_named}
use Rattle.text.specs.declared.span.Span.{Span}
use Rattle.codes.proofs.Numbered.{type_number_range}
use Rattle.codes.proofs.RowSteps.{rows_next}
use Rattle.codes.proofs.Stretch.{under_whole}
use Rattle.codes.proofs.Ascending.{in_field, type-field, type-ascends}
use Rattle.codes.proofs.Guided.{guides-first, sure-rows, sure-leaves}

-- numbers that tell a table tell all of it
pub are_same_table : (table : List ℕ) (T : Table) → AreTable table T → table_of table ≡ T
are_same_table table T e =
    λ i.
    record {
      rows = e.rows i;
      types = e.types i;
      otherwise = e.otherwise i;
      succession = e.succession i;
      ends = e.ends i;
    }

-- THE LEAVES of a type that is named are those under its number
types-step : (b : Bool) (table : List ℕ) (k n : ℕ) (ls : List Leaf) → ls ≡ leaves_under n table → pick b (leaves_under k table) ls ≡ leaves_under (pick b k n) table
types-step true table k n ls e = refl
types-step false table k n ls e = e

types_are : (table : List ℕ) (none k : ℕ) (ns : List Text) (x : Text) → type_leaves (types_from k ns table) (leaves_under none table) x ≡ leaves_under (number_in none k ns x) table
unfolding type_leaves types_from number_in
types_are table none k [] x = refl
types_are table none k (n ∷ ns) x =
    types-step (same n x) table k (number_in none (suc k) ns x) (type_leaves (types_from (suc k) ns table) (leaves_under none table) x) (types_are table none (suc k) ns x)

pub named-leaves : (table : List ℕ) (x : Text) → leaves_named table x ≡ map leaf_of (under (type_number x) table)
unfolding table_of
named-leaves table x = types_are table 16 8 value-types x

-- all rows of a type are of one field: what the first says is sure to pass holds of all
all-field : (f : ℕ) (l : List (List ℕ)) → every (in_field f) l ≡ true → of_field f l ≡ length l
unfolding of_field every
all-field f [] e = refl
all-field f (x ∷ l) e =
    let h = both (in_field f x) (every (in_field f) l) e in
    rw (h.0, all-field f l h.1)

type-sure : (table : List ℕ) (k : ℕ) (r : Span) → first_type ≤ k → Under table k r → 1 ≤ get_or table (r.start + sure_column) 0
    → SureUpTo (get_or table (r.start + sure_column) 0) (map leaf_of (under k table))
unfolding every
type-sure table k r h u some =
    let x = drop r.start table in
    let rs = rows_within (r.start + row_size) r.end table in
    let is : under k table ≡ x ∷ rs = sym u.rows ∙ rows_next table r.start r.end (omega (arith, u.some)) in
    let one : every (in_field 1) (x ∷ rs) ≡ true = subst (λ (l : List (List ℕ)). every (in_field 1) l ≡ true) is (type-field k h (under k table) u.numbered u.ordered.proper).0 in
    let first : get_or x field_column 0 ≡ 1 = eqb-true (get_or x field_column 0) 1 (both (in_field 1 x) (every (in_field 1) rs) one).0 in
    let count : of_field (get_or x field_column 0) (x ∷ rs) ≡ length (x ∷ rs) = rw first (all-field 1 (x ∷ rs) one) in
    let guided = (guides-first r.start x rs (subst (λ (l : List (List ℕ)). guides r.start l ≡ true) is u.guided)).1 in
    let n : get_or x sure_column 0 ≡ get_or table (r.start + sure_column) 0 = get_or-drop r.start table sure_column 0 in
    rw (is, ← n) (sure-leaves x rs (sure-rows x rs (x ∷ rs) [] guided (sym (append-nil (x ∷ rs))) count (rw n some)))

pub type-lists : (table : List ℕ) (x : Text) (k : ℕ) (r : Span) → HasLists table → k ≡ type_number x → Under table k r → Lists table r (leaves_named table x)
type-lists table x k r c e u =
    let named : map leaf_of (under k table) ≡ leaves_named table x = ap (λ (j : ℕ). leaves_under j table) e ∙ sym (named-leaves table x) in
    record {
      some = u.some;
      inside = u.inside;
      leaves = ap (λ (l : List (List ℕ)). map leaf_of l) u.rows ∙ named;
      ascends = subst (Ascends 1) named (type-ascends k (omega (arith, e, type_number_range x)) (under k table) u.ordered u.numbered);
      codes = c;
      sure = λ some. subst (SureUpTo (get_or table (r.start + sure_column) 0)) named (type-sure table k r (omega (arith, e, type_number_range x)) u some);
    }

-- the rows of a segment among all
abbrev named : Text → Row → Bool
named n r = same r.segment n

module _ {A : Type 0} (f : A → Bool) where
  keep-step : (b : Bool) (x : A) (l r : List A) → pick b (x ∷ (l ++ r)) (l ++ r) ≡ pick b (x ∷ l) l ++ r
  keep-step true x l r = refl
  keep-step false x l r = refl

  keep_append : (l r : List A) → keep f (l ++ r) ≡ keep f l ++ keep f r
  unfolding keep
  keep_append [] r = refl
  keep_append (x ∷ l) r = rw (keep_append l r) (keep-step (f x) x (keep f l) (keep f r))

  some-append : (l r : List A) → some f (l ++ r) ≡ some f l || some f r
  unfolding some
  some-append [] r = refl
  some-append (x ∷ l) r = rw (some-append l r) (sym (or_assoc (f x) (some f l) (some f r)))

module _ (n m : Text) where
  keep_all : same m n ≡ true → (l : List (List ℕ)) → keep (named n) (map (row_of m) l) ≡ map (row_of m) l
  unfolding keep
  keep_all e [] = refl
  keep_all e (x ∷ l) = rw e (ap (λ (rs : List Row). row_of m x ∷ rs) (keep_all e l))

  keep-none : same m n ≡ false → (l : List (List ℕ)) → keep (named n) (map (row_of m) l) ≡ []
  unfolding keep
  keep-none e [] = refl
  keep-none e (x ∷ l) = rw e (keep-none e l)

  some-none : same m n ≡ false → (l : List (List ℕ)) → some (named n) (map (row_of m) l) ≡ false
  unfolding some
  some-none e [] = refl
  some-none e (x ∷ l) = rw e (some-none e l)

  some-rows : (b : Bool) → same m n ≡ b → (x : List ℕ) (l : List (List ℕ)) → some (named n) (map (row_of m) (x ∷ l)) ≡ b
  unfolding some
  some-rows true e x l = rw e
  some-rows false e x l = rw e (some-none e l)

-- no two of the names are the same
abbrev others : Text → List Text → Bool
others n ns = every (λ (m : Text). not (same m n)) ns

unfoldable distinct : List Text → Bool
distinct [] = true
distinct (n ∷ ns) = others n ns && distinct ns

segments-distinct : distinct segment_names ≡ true
unfolding distinct every same
segments-distinct = refl

segments-none : (table : List ℕ) (n : Text) (k : ℕ) (ns : List Text) → others n ns ≡ true → keep (named n) (segments_from k ns table) ≡ []
unfolding segments_from every keep
segments-none table n k [] e = refl
segments-none table n k (m ∷ ns) e =
    let h = both (not (same m n)) (others n ns) e in
    keep_append (named n) (map (row_of m) (under k table)) (segments_from (suc k) ns table)
    ∙ rw (keep-none n m (tests.not-true (same m n) h.0) (under k table)) (segments-none table n (suc k) ns h.1)

one-step : (table : List ℕ) (n m : Text) (j k i : ℕ) (ns : List Text) (b : Bool) → same m n ≡ b → others m ns ≡ true → pick b j i ≡ k
    → (i ≡ k → keep (named n) (segments_from (suc j) ns table) ≡ map (row_of n) (under k table))
    → keep (named n) (map (row_of m) (under j table)) ++ keep (named n) (segments_from (suc j) ns table) ≡ map (row_of n) (under k table)
one-step table n m j k i ns true e o h ih =
    let s = same_true m n e in
    rw (keep_all n m e (under j table), segments-none table n (suc j) ns (rw s at o), append-nil (map (row_of m) (under j table)), s, h)
one-step table n m j k i ns false e o h ih = rw (keep-none n m e (under j table)) (ih h)

segments-one : (table : List ℕ) (n : Text) (j k : ℕ) (ns : List Text) → distinct ns ≡ true → number_in 0 j ns n ≡ k → 1 ≤ k
    → keep (named n) (segments_from j ns table) ≡ map (row_of n) (under k table)
unfolding distinct number_in segments_from keep
segments-one table n j k [] d e h = absurd (omega arith)
segments-one table n j k (m ∷ ns) d e h =
    let o = both (others m ns) (distinct ns) d in
    keep_append (named n) (map (row_of m) (under j table)) (segments_from (suc j) ns table)
    ∙ one-step table n m j k (number_in 0 (suc j) ns n) ns (same m n) refl o.0 e (λ i. segments-one table n (suc j) k ns o.1 i h)

pub rules_under : (table : List ℕ) (n : Text) (k : ℕ) → segment_number n ≡ k → 1 ≤ k → rules_of (table_of table) n ≡ gathered (map (row_of n) (under k table))
unfolding rules_of table_of
rules_under table n k e h = ap gathered (segments-one table n 1 k segment_names segments-distinct e h)

-- THE LISTED SEGMENTS are those with a number
listed-step : (b c : Bool) (k n : ℕ) → 1 ≤ k → c ≡ not (eqb n 0) → b || c ≡ not (eqb (pick b k n) 0)
listed-step true c k n h e = rw (ne_eqb k 0 (λ z. omega arith))
listed-step false c k n h e = e

segments-listed : (table : List ℕ) (n : Text) (k : ℕ) (ns : List Text) → 1 ≤ k → ((i : ℕ) → k ≤ i → i < k + length ns → row_size ≤ begin table (suc i) - begin table i)
    → some (named n) (segments_from k ns table) ≡ not (eqb (number_in 0 k ns n) 0)
unfolding segments_from number_in some
segments-listed table n k [] h w = refl
segments-listed table n k (m ∷ ns) h w =
    let rest = rows_within (begin table k + row_size) (begin table (suc k)) table in
    some-append (named n) (map (row_of m) (under k table)) (segments_from (suc k) ns table)
    ∙ rw (rows_next table (begin table k) (begin table (suc k)) (w k (omega arith) (omega arith)), some-rows n m (same m n) refl (drop (begin table k) table) rest)
    (listed-step (same m n) (some (named n) (segments_from (suc k) ns table)) k (number_in 0 (suc k) ns n) h
    (segments-listed table n (suc k) ns (omega arith) (λ i a b. w i (omega arith) (omega arith))))

-- under each number of a segment there is a row
row_under : (table : List ℕ) → Sound table → (k : ℕ) → 1 ≤ k → k ≤ no_type → row_size ≤ begin table (suc k) - begin table k
row_under table s k l h = omega (arith, (under_whole table s k l h).some)

pub listed-number : (table : List ℕ) → Sound table → (n : Text) → is_listed (table_of table) n ≡ not (eqb (segment_number n) 0)
unfolding table_of
listed-number table s n = segments-listed table n 1 segment_names (omega arith) (λ i a b. row_under table s i a (omega arith))
