-- A field that has components at most: each of them is its own first leaf, with no escape.
use mathlib.Core.Path.{◌≡◌, refl, sym, ap, ◌∙◌}
use Prim.Native.Nat.{ℕ, zero, suc, ◌+◌, ◌-◌, ◌≤◌}
use native.Mathlib.Omega.{arith}
use mathlib.Core.Bool.{Bool, true, false, not, ◌||◌}
use mathlib.Core.List.{List, [], ◌∷◌}
use lib.ListN.{length, get_or, drop}
use lib.Seq.{take_all}
use lib.Dec.{eqb, ltb}
use borrow.Author.Tests.{not-true, lt-ltb, ne_eqb}
use Rattle.profile.specs.Numbers.{component_column, row_size, subcomponent_column}
use Rattle.text.specs.Bytes.{Text, every, within}
use Rattle.escape.specs.Length.{Measures}
use Rattle.escape.specs.Step.{is_other}
use Rattle.escape.proofs.Escapes.{counted_free}
use Rattle.text.specs.declared.marks.Marks.{Marks}
use Rattle.text.proofs.Tests.{both}
use native.Mathlib.Nat.{zero-add}
use Rattle.text.proofs.Tests.{not-true as no}
use Rattle.text.proofs.Lists.{and_both, or-none, every_drop, every_take}
use Rattle.parts.specs.Split.{split, piece}
use Rattle.parts.specs.Start.{start}
use Rattle.parts.specs.Span.{span}
use Rattle.cursor.specs.Cursor.{IsPiece}
use Rattle.cursor.specs.declared.Cursor.{Cursor}
use Rattle.parts.proofs.Split.{before-first}
use Rattle.parts.proofs.Join.{Free, split_one}
use Rattle.profile.specs.Table.{Leaf}
use Rattle.profile.specs.Numbers as row
use Rattle.checks.specs.Place.{Place}
use Rattle.checks.specs.Fault.{leaf_checks, first_broken}
use Rattle.std.specs.Prelude.{None, Some, Result, Ok, Err}
use Rattle.std.specs.Result.{is_ok, is_err}
use Rattle.checks.specs.declared.reasons.Reason.{Reason}
use Rattle.leaves.specs.Judged.{told, ReadsRepetition}
use Rattle.fields.specs.Judged.{ReadsField}
use Rattle.fields.specs.Flat.{is_plain, is_flat, passed, passed_once}
use Rattle.leaves.proofs.LeafByLeaf.{Reading, reading-judged}
use Rattle.checks.proofs.Filled.{none_filled}
use Rattle.fields.proofs.Repeats.{repeats-first, repeats-read, repeats-last}

-- parts of a flat text are flat
module _ (q : Marks) where
  pub flat-within : (a e : ℕ) (x : Text) → is_flat q x ≡ true → is_flat q (within a e x) ≡ true
  flat-within a e x h = every_take (is_plain q) (e - a) (drop a x) (every_drop (is_plain q) a x h)

  -- none of the marks is in it
  pub record Flat (x : Text) : Type 0 where
    pub repetition : Free q.repetition x
    pub subcomponent : Free q.subcomponent x
    pub escape : every (is_other q.escape) x ≡ true

  pub flat : (x : Text) → is_flat q x ≡ true → Flat x
  unfolding every
  flat [] e = record { repetition = tt; subcomponent = tt; escape = refl }
  flat (b ∷ x) e =
      let h = both (is_plain q b) (is_flat q x) e in
      let a = or-none (eqb b q.repetition) (eqb b q.subcomponent || eqb b q.escape) (not-true _ h.0) in
      let c = or-none (eqb b q.subcomponent) (eqb b q.escape) a.1 in
      let w = flat x h.1 in
      record {
        repetition = (a.0, w.repetition);
        subcomponent = (c.0, w.subcomponent);
        escape = and_both (is_other q.escape b) (every (is_other q.escape) x) (ap not c.1) w.escape;
      }

  -- it reads as it is written
  pub flat-plain : (x : Text) → is_flat q x ≡ true → Measures q x (Some (length x))
  flat-plain x h = counted_free q x (flat x h).escape

  -- it is its own first subcomponent
  flat-leaf : (x : Text) → is_flat q x ≡ true → span 0 x ≡ span (start q.subcomponent 1 x) (piece 1 (split q.subcomponent x))
  flat-leaf x h = rw (before-first q.subcomponent x, split_one q.subcomponent x (flat x h).subcomponent)

whole-within : (x : Text) → within 0 (0 + length x) x ≡ x
whole-within x = take_all (0 + length x - 0) x (omega arith)

-- WHERE THE READING STANDS, a leaf further: nothing is broken
module _ {s : Text} {q : Marks} {table : List ℕ} {first end : ℕ} {filled : Bool} {c : Cursor} {at : ℕ}
    (w : Reading s q table first end (record { filled = filled; broken = None }) c at) (more : row_size ≤ end - at)
    (clean : is_flat q s ≡ true) (sub : get_or table (at + subcomponent_column) 0 ≡ 1)
    {d : Cursor} (moved : IsPiece q.component s d × (d.number ≡ get_or table (at + component_column) 0)) where
  abbrev text : Text
  text = within d.start d.end s

  pub flat_measured : Measures q text (Some (length text))
  flat_measured = flat-plain q text (flat-within q d.start d.end s clean)

  found_at : span 0 text ≡ span (start q.subcomponent (get_or table (at + subcomponent_column) 0) text) (piece (get_or table (at + subcomponent_column) 0) (split q.subcomponent text))
  found_at = rw sub (flat-leaf q text (flat-within q d.start d.end s clean))

  pub flat_on : (r : Result Unit Reason) → ((p : Place) → told p r ≡ first_broken (leaf_checks q p (row.leaf_of (drop at table)) text)) → r ≡ Ok tt
      → Reading s q table first end (record { filled = filled || ltb 0 (length text); broken = None }) d (at + row_size)
  flat_on r g e = rw (zero-add (length text), e) at (reading-judged w more moved {p = span 0 text} found_at refl r (λ p. rw (whole-within text) (g p)))

-- a check that is said to be broken nowhere
pub is_good : (r : Result Unit Reason) → is_ok r ≡ true → r ≡ Ok tt
is_good (Ok _) e = refl
is_good (Err r) e = cc e

pub not_broken : (r : Result Unit Reason) → is_err r ≡ false → r ≡ Ok tt
not_broken (Ok _) e = refl
not_broken (Err r) e = cc e

-- some, told by a test for none
pub not-none : (n : ℕ) → not (eqb n 0) ≡ ltb 0 n
not-none zero = refl
not-none (suc n) = rw (lt-ltb 0 (suc n) (omega arith), ne_eqb (suc n) 0 (λ e. omega (arith, e)))

-- THE FIELD is its only repetition
pub flat-reads : (q : Marks) (ls : List Leaf) (x : Text) → is_flat q x ≡ true → ReadsRepetition q ls x passed_once → (most : ℕ) → 1 ≤ most → ReadsField q ls most x passed
flat-reads q ls [] h r most m = no (sym (r.filled ∙ none_filled q ls))
flat-reads q ls (b ∷ x) h r most m =
    let y = b ∷ x in
    repeats-last q ls y 1 most passed m
    (repeats-read q ls y 1 y [] (record { surplus = false; filled = false; broken = None })
    (rw (split_one q.repetition y (flat q y h).repetition) at (repeats-first q ls y (λ z. omega (arith, z)))) refl passed_once r refl)
