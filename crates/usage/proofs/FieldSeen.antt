-- What was read of a field is what is seen of it.
use mathlib.Core.Path.{◌≡◌, sym, subst, ◌∙◌}
use Prim.Native.Nat.{ℕ, ◌+◌, ◌≤◌}
use mathlib.Core.Bool.{false}
use mathlib.Core.List.{List}
use lib.ListN.{length, get_or}
use lib.Dec.{ltb}
use Rattle.text.specs.Bytes.{Text}
use Rattle.text.specs.declared.marks.Marks.{Marks}
use Rattle.frame.specs.Segments.{field, unsplit}
use Rattle.profile.specs.Table.{Table, Leaf, Rule, leaves_of}
use Rattle.text.specs.declared.span.Span.{Span}
use Rattle.profile.specs.Numbers.{table_of, field_column, repetitions_column, first_field}
use Rattle.codes.specs.Inner.{Lists, leaves_at, rule_at}
use Rattle.fields.specs.declared.field.ReadField.{ReadField}
use Rattle.checks.specs.View.{Field, named_in, field_seen}
use Rattle.checks.specs.Fault.{starts_filled, first_filled}
use Rattle.listing.specs.Listing.{HasNumber}
use Rattle.checks.specs.Repetition.{repetitions_in}
use Rattle.fields.specs.Judged.{ReadsField, filled_in}
use Rattle.checks.proofs.Filled.{split-count, split-filled}
use Rattle.located.specs.Listed.{leaves_of_field}
use Rattle.located.proofs.FieldText.{field-split}

-- what is seen of a field that is split
module _ (T : Table) (q : Marks) (s : Text) (u : Rule) (x : Text) (is : x ≡ field q s u.field) (cut : unsplit s u.field ≡ false) where
  pub seen-surplus : (field_seen T q s u).surplus ≡ ltb u.repetitions (length (repetitions_in q x))
  unfolding field_seen
  seen-surplus = rw (split-count q s u.field cut, is)

  pub seen-filled : (field_seen T q s u).filled ≡ filled_in q (leaves_of T (named_in q s) u) x
  unfolding field_seen
  seen-filled = rw is (split-filled q s u.field cut (leaves_of T (named_in q s) u))

  pub seen_first : first_filled (field_seen T q s u) ≡ starts_filled (filled_in q (leaves_of T (named_in q s) u) x)
  seen_first = rw seen-filled

-- a field of a segment
module _ (q : Marks) (table : List ℕ) (s : Text) (k at end : ℕ) (numbered : HasNumber s k) (low : first_field k ≤ get_or table (at + field_column) 0) where
  abbrev u : Rule
  u = rule_at table at end

  abbrev v : Field
  v = field_seen (table_of table) q s u

  pub cut : unsplit s u.field ≡ false
  cut = field-split s k numbered u.field low

  -- what was read of it, by the rows of its leaves, is what is seen of it
  module _ (x : Text) (is : x ≡ field q s (get_or table (at + field_column) 0))
      (rows : Span) (lists : Lists table rows (leaves_of_field q table s at end)) (a : ReadField) (by_rows : ReadsField q (leaves_at table rows) (get_or table (at + repetitions_column) 0) x a) where
    pub reads : ReadsField q (leaves_of_field q table s at end) u.repetitions x a
    reads = subst (λ (ls : List Leaf). ReadsField q ls u.repetitions x a) lists.leaves by_rows

    pub surplus-is : a.surplus ≡ v.surplus
    surplus-is = reads.surplus ∙ sym (seen-surplus (table_of table) q s u x is cut)

    pub filled_is : a.filled ≡ first_filled v
    filled_is = reads.filled ∙ sym (seen_first (table_of table) q s u x is cut)
