-- Where the text of a segment's field stands.
use mathlib.Core.Path.{◌≡◌, sym, ap, ◌∙◌}
use Prim.Native.Nat.{ℕ, zero, suc, ◌+◌, ◌-◌, ◌≤◌, min}
use native.Mathlib.Nat.{zero-min, min-zero, suc-min-suc}
use native.Mathlib.Omega.{arith}
use mathlib.Core.Bool.{Bool, true, false}
use mathlib.Core.List.{[], ◌∷◌}
use lib.ListN.{length, drop, length-drop}
use lib.Seq.{take_all}
use lib.Dec.{eqb}
use borrow.Author.Tests.{lt-leb}
use Rattle.profile.specs.Numbers.{fields_before, fields_from, first_field}
use Rattle.text.specs.Bytes.{Text, pick, within}
use Rattle.text.specs.declared.marks.Marks.{Marks}
use Rattle.parts.specs.Split.{split, piece}
use Rattle.cursor.specs.Cursor.{IsPiece}
use Rattle.cursor.specs.declared.Cursor.{Cursor}
use Rattle.frame.specs.Segments.{name, is_header, field, unsplit}
use Rattle.frame.specs.Starts.{header_field}
use Rattle.frame.proofs.Segments.{field-header, field-other}
use Rattle.listing.specs.Listing.{HasNumber}
use Rattle.cursor.proofs.Moving.{cursor-text}
use Rattle.codes.proofs.Numbered.{header-number}

-- beyond the end there is nothing
drop_min : (k : ℕ) (s : Text) → drop (min k (length s)) s ≡ drop k s
drop_min zero s = rw (zero-min (length s))
drop_min (suc k) [] = rw (min-zero (suc k))
drop_min (suc k) (b ∷ s) = rw (suc-min-suc k (length s)) (drop_min k s)

rest_all : (k : ℕ) (s : Text) → within k (length s) s ≡ drop k s
rest_all k s = take_all (length s - k) (drop k s) (omega (arith, length-drop k s))

-- fields are numbered from 1, the header's from 3
below_step : (b : Bool) (f : ℕ) → pick b 3 1 ≤ f → pick b 2 0 + 1 ≤ f
below_step true f l = l
below_step false f l = l

pub before-field : (k f : ℕ) → first_field k ≤ f → fields_before k + 1 ≤ f
before-field k f l = below_step (eqb k 1) f l

-- from MSH-3 on
third : (q : Marks) (s : Text) (f : ℕ) → 3 ≤ f → header_field q s f ≡ piece (f - 2) (split q.field (drop 9 s))
third q s zero l = absurd (omega arith)
third q s (suc zero) l = absurd (omega arith)
third q s (suc (suc zero)) l = absurd (omega arith)
third q s (suc (suc (suc i))) l =
    let e : suc (suc (suc i)) - 2 ≡ suc i = omega arith in
    rw e

-- over whether the segment is the header
text-step : (q : Marks) (s : Text) (f : ℕ) (b : Bool) → is_header s ≡ b → pick b 3 1 ≤ f
    → field q s f ≡ piece (f - pick b 2 0) (split q.field (drop (pick b 9 4) s))
text-step q s f true e l = field-header q s f e ∙ third q s f l
text-step q s f false e l =
    let z : f - 0 ≡ f = omega arith in
    rw z (field-other q s f e)

split_step : (s : Text) (f : ℕ) (b : Bool) → is_header s ≡ b → pick b 3 1 ≤ f → unsplit s f ≡ false
split_step s f true e l = rw (e, lt-leb f 2 l)
split_step s f false e l = rw e

module _ (s : Text) (k : ℕ) (numbered : HasNumber s k) (f : ℕ) (l : first_field k ≤ f) where
  pub field-text : (q : Marks) → field q s f ≡ piece (f - fields_before k) (split q.field (drop (min (fields_from k) (length s)) s))
  field-text q =
      text-step q s f (eqb k 1) (header-number (name s) k numbered.0) l
      ∙ ap (λ (t : Text). piece (f - fields_before k) (split q.field t)) (sym (drop_min (fields_from k) s))

  -- where a cursor over the fields stands
  pub field_at : (q : Marks) (skip b : ℕ) (c : Cursor) → skip ≡ min (fields_from k) (length s) → b ≡ fields_before k
      → IsPiece q.field (within skip (length s) s) c → c.number ≡ f - b → within c.start c.end (within skip (length s) s) ≡ field q s f
  field_at q skip b c e g p n =
      let x = within skip (length s) s in
      cursor-text q.field x c p
      ∙ ap (λ (y : Text). piece c.number (split q.field y)) (rest_all skip s ∙ ap (λ (i : ℕ). drop i s) e)
      ∙ ap (λ (i : ℕ). piece i (split q.field (drop (min (fields_from k) (length s)) s))) (n ∙ ap (λ (i : ℕ). f - i) g)
      ∙ sym (field-text q)

  pub field-split : unsplit s f ≡ false
  field-split = split_step s f (eqb k 1) (header-number (name s) k numbered.0) l
