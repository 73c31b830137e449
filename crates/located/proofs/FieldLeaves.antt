-- The rows that list a field's leaves.
use mathlib.Core.Path.{◌≡◌, sym, ap, subst, ◌∙◌}
use Prim.Native.Nat.{ℕ, ◌+◌, ◌-◌, ◌≤◌, ◌<◌}
use native.Mathlib.Omega.{arith}
use mathlib.Core.List.{List}
use lib.ListN.{length, get_or, drop}
use lib.Seq.{take-take, get_or-drop}
use Rattle.profile.specs.Numbers.{type_column, first_field, first_namer, sure_column}
use Rattle.text.specs.Bytes.{Text, within}
use Rattle.text.specs.declared.marks.Marks.{Marks}
use Rattle.parts.specs.Split.{split, piece}
use Rattle.parts.specs.Start.{reach}
use Rattle.parts.specs.Descent.{in_field}
use Rattle.parts.specs.Span.{part_text}
use Rattle.parts.proofs.Reach.{end-inside}
use Rattle.parts.proofs.Descent.{within-length}
use Rattle.cursor.proofs.Moving.{cursor, cursor-text, cursor-first}
use Rattle.frame.specs.Segments.{field}
use Rattle.profile.specs.Table.{Leaf}
use Rattle.text.specs.declared.span.Span.{Span}
use Rattle.profile.specs.Codes.{HasLists}
use Rattle.codes.specs.Inner.{Lists, Ascends, IsField, leaves_at, leaves_named}
use Rattle.codes.proofs.OneField.{field-namer, leaves-plain, leaves-named}
use Rattle.checks.proofs.Leaf.{leaf-split}
use Rattle.checks.specs.View.{named_in}
use Rattle.listing.specs.Listing.{HasNumber}
use Rattle.located.specs.Listed.{leaves_of_field}
use Rattle.located.proofs.FieldText.{field-split}

-- the first piece of a text, told by its end
module _ (sep : ℕ) (x : Text) (e : ℕ) (ends : e ≡ 0 + reach sep (drop 0 x)) where
  pub first-inside : e ≤ length x
  first-inside = end-inside sep x 0 e (omega arith) ends

  first-text : within 0 e x ≡ piece 1 (split sep x)
  first-text = cursor-text sep x (cursor 1 0 e) (cursor-first sep x e ends)

-- and that of what stands in front
module _ (sep : ℕ) (x : Text) (a e : ℕ) (inside : a ≤ length x) (ends : e ≡ 0 + reach sep (drop 0 (within 0 a x))) where
  front-inside : e ≤ a
  front-inside = omega (arith, first-inside sep (within 0 a x) e ends, within-length x 0 a (omega arith) inside)

  front-text : within 0 e x ≡ piece 1 (split sep (within 0 a x))
  front-text =
      let l : e - 0 ≤ a - 0 = omega (arith, front-inside) in
      sym (take-take (e - 0) (a - 0) x l) ∙ first-text sep (within 0 a x) e ends

-- THE FIRST LEAF of a field
module _ (q : Marks) (x : Text) (a b : ℕ) (first : a ≡ 0 + reach q.repetition (drop 0 x)) (second : b ≡ 0 + reach q.component (drop 0 (within 0 a x))) where
  first-is : a ≤ length x
  first-is = first-inside q.repetition x a first

  pub second-inside : b ≤ length x
  second-inside = omega (arith, first-is, front-inside q.component x a b first-is second)

  module _ (e : ℕ) (third : e ≡ 0 + reach q.subcomponent (drop 0 (within 0 b x))) where
    pub leaf-inside : e ≤ length x
    leaf-inside = omega (arith, second-inside, front-inside q.subcomponent x b e second-inside third)

    pub leaf_first : within 0 e x ≡ part_text (in_field q 1 1 1) x
    unfolding part_text
    leaf_first =
        let p : ℕ → Text → Text = λ sep y. piece 1 (split sep y) in
        front-text q.subcomponent x b e second-inside third
        ∙ ap (p q.subcomponent) (front-text q.component x a b first-is second)
        ∙ ap (λ (y : Text). p q.subcomponent (p q.component y)) (first-text q.repetition x a first)

-- a field that names a type has a number as any other
number_step : (k n : ℕ) → first_namer k ≤ n → first_field k ≤ n - 10
number_step k n h = omega arith

-- THE ROWS that list a field's leaves: its own
module _ (q : Marks) (table : List ℕ) (s : Text) (k at end : ℕ) (is : IsField table k at end) where
  pub lists-own : HasLists table → get_or table (at + type_column) 0 < 10 → Lists table (record { start = at; end = end }) (leaves_of_field q table s at end)
  lists-own has l =
      let w = leaves-plain table k at end is l (named_in q s) in
      record {
        some = is.some;
        inside = is.inside;
        leaves = sym w.0;
        ascends = subst (λ (ls : List Leaf). Ascends 1 ls) (sym w.0) w.1;
        codes = has;
        sure = λ some.
            let n = get_or-drop at table sure_column 0 in
            rw (w.0, ← n) (is.sure (rw n some));
      }

  -- those of the type that another field names
  pub named-from : 10 ≤ get_or table (at + type_column) 0 → first_field k ≤ get_or table (at + type_column) 0 - 10
  named-from l = number_step k (get_or table (at + type_column) 0) (field-namer table k at end is l)

  pub lists_named : (l : 10 ≤ get_or table (at + type_column) 0) (r : Span) → Lists table r (leaves_named table (named_in q s (get_or table (at + type_column) 0 - 10))) → Lists table r (leaves_of_field q table s at end)
  lists_named l r h = subst (λ (ls : List Leaf). Lists table r ls) (sym (leaves-named table k at end is l (named_in q s))) h

-- the type that a field names is its first leaf
module _ (q : Marks) (table : List ℕ) (s : Text) (k : ℕ) (numbered : HasNumber s k) (namer : ℕ) (low : first_field k ≤ namer) where
  named-text : (x : Text) → x ≡ field q s namer → part_text (in_field q 1 1 1) x ≡ named_in q s namer
  named-text x e = ap (part_text (in_field q 1 1 1)) e ∙ sym (leaf-split q s namer 1 1 1 (field-split s k numbered namer low))

  pub lists-type : (r : Span) (x : Text) → x ≡ field q s namer → (e : ℕ) → within 0 e x ≡ part_text (in_field q 1 1 1) x → Lists table r (leaves_named table (within 0 e x))
      → Lists table r (leaves_named table (named_in q s namer))
  lists-type r x f e g h = subst (λ (ls : List Leaf). Lists table r ls) (ap (leaves_named table) (g ∙ named-text x f)) h

-- rows list what they list
pub lists_itself : (table : List ℕ) (r : Span) (ls : List Leaf) → Lists table r ls → Lists table r (leaves_at table r)
lists_itself table r ls h = subst (λ (l : List Leaf). Lists table r l) (sym h.leaves) h
