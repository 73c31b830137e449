-- Inner: no entry's promise is made of this.
-- What only inner functions promise and ask for: the rows of a lent table, told from where a reader stands.
use Rattle.std.specs.Prelude.{ℕ, ◌+◌, ◌≤◌, ◌≡◌, true, List, [], ◌∷◌, map, length, get_or, drop}
use Rattle.text.specs.Bytes.{Text, every, within}
use Rattle.profile.specs.Table.{Leaf, Rule, type_leaves}
use Rattle.profile.specs.Numbers.{codes_in, codes_of, row_size, segment_column, field_column, usage_column, repetitions_column, sure_column, leaf_of, listed_of, usage_of, rows_within, under, table_of}
use Rattle.profile.specs.Order.{reason_fits, same_field, are_of, Ordered, guides, takes_up_to}
use Rattle.profile.specs.Codes.{codes_from, are_codes, HasLists}
use Rattle.text.specs.declared.span.Span.{Span}

-- the leaves that rows list
abbrev pub leaves_at : List ℕ → Span → List Leaf
leaves_at table r = map leaf_of (rows_within r.start r.end table)

-- leaves whose components rise from k on, each with a reason from 1 to 12 where it has a list
pub data Ascends : ℕ → List Leaf → Type 0 where
  nothing : {k : ℕ} → Ascends k []
  next : {k : ℕ} {l : Leaf} {ls : List Leaf} → k ≤ l.component → reason_fits l.list ≡ true → Ascends l.component ls → Ascends k (l ∷ ls)

-- texts of up to n bytes will do at each of these leaves, of which the first is of component 1
pub data SureUpTo : ℕ → List Leaf → Type 0 where
  sure : {n : ℕ} {l : Leaf} {ls : List Leaf} → l.component ≡ 1 → every (takes_up_to n) (l ∷ ls) ≡ true → SureUpTo n (l ∷ ls)

-- rows that are one field's of the segment with that number, in order, and the rule that they are
pub record IsField (table : List ℕ) (k at end : ℕ) : Type 0 where
  pub some : at + row_size ≤ end
  pub inside : end ≤ length table
  pub ordered : Ordered (rows_within at end table)
  pub one : every (λ (r : List ℕ). same_field (drop at table) r) (rows_within at end table) ≡ true
  pub segment : get_or (drop at table) segment_column 0 ≡ k
  pub sure : 1 ≤ get_or (drop at table) sure_column 0 → SureUpTo (get_or (drop at table) sure_column 0) (map leaf_of (rows_within at end table))

abbrev pub rule_at : List ℕ → ℕ → ℕ → Rule
rule_at table at end =
    record {
      field = get_or table (at + field_column) 0;
      usage = usage_of (get_or table (at + usage_column) 0);
      repetitions = get_or table (at + repetitions_column) 0;
      lists = map listed_of (rows_within at end table);
    }

-- the rows under a number, and those that list the leaves of the type named so
pub record Under (table : List ℕ) (k : ℕ) (r : Span) : Type 0 where
  pub some : r.start + row_size ≤ r.end
  pub inside : r.end ≤ length table
  pub rows : rows_within r.start r.end table ≡ under k table
  pub ordered : Ordered (under k table)
  pub numbered : are_of k (under k table) ≡ true
  pub guided : guides r.start (under k table) ≡ true

pub record Lists (table : List ℕ) (r : Span) (ls : List Leaf) : Type 0 where
  pub some : r.start + row_size ≤ r.end
  pub inside : r.end ≤ length table
  pub leaves : leaves_at table r ≡ ls
  pub ascends : Ascends 1 ls
  pub codes : HasLists table
  pub sure : 1 ≤ get_or table (r.start + sure_column) 0 → SureUpTo (get_or table (r.start + sure_column) 0) ls

abbrev pub leaves_named : List ℕ → Text → List Leaf
leaves_named table n = type_leaves (table_of table).types (table_of table).otherwise n

-- the codes of the list with that number, whatever its reason
pub record AreListed (lists : List ℕ) (n : ℕ) (r : Span) : Type 0 where
  pub inside : r.end ≤ length lists
  pub whole : are_codes (within r.start r.end lists) ≡ true
  pub codes : (reason : ℕ) → codes_from (within r.start r.end lists) ≡ codes_in (codes_of n reason)
