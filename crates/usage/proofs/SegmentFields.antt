-- A segment's listed fields, told from the row where a reader stands.
use mathlib.Core.Path.{◌≡◌, refl, sym, ap, subst, ◌∙◌}
use Prim.Native.Nat.{ℕ, ◌+◌, ◌-◌, ◌*◌, ◌≤◌, ◌<◌}
use native.Mathlib.Omega.{arith}
use mathlib.Core.Bool.{Bool, true, false, ◌&&◌, ◌||◌}
use mathlib.Core.List.{List, [], ◌∷◌, map}
use lib.ListN.{length, get_or}
use lib.Dec.{eqb}
use borrow.Author.Tests.{eq-eqb, ne_eqb}
use Rattle.text.specs.Bytes.{Text, some}
use Rattle.text.specs.declared.marks.Marks.{Marks}
use Rattle.frame.specs.Segments.{name}
use Rattle.profile.specs.Table.{C, gathered}
use Rattle.profile.specs.Numbers.{row_of, rows_within, table_of, field_column, row_size, first_field, next_column}
use Rattle.profile.specs.Order.{are_of, of_field, guides, Ordered}
use Rattle.text.specs.declared.span.Span.{Span}
use Rattle.codes.specs.Inner.{Under, IsField, rule_at}
use Rattle.checks.specs.View.{Field, field_seen, segment_seen}
use Rattle.checks.specs.Fault.{first_filled, is_required}
use Rattle.listing.specs.Listing.{HasNumber}
use Rattle.codes.proofs.RowSteps.{rows_none}
use Rattle.codes.proofs.OneField.{field_bounds, rules_at, field_is, ordered-rest, of_rest, guided-rest, next-begins, field-later, field-low}
use Rattle.codes.proofs.Rules.{rules_under}

-- the rows left: in order, of one segment, and guiding through themselves
pub record Left (table : List ℕ) (k at end : ℕ) : Type 0 where
  pub order : at ≤ end
  pub inside : end ≤ length table
  pub ordered : Ordered (rows_within at end table)
  pub numbered : are_of k (rows_within at end table) ≡ true
  pub guided : guides at (rows_within at end table) ≡ true

-- what is seen of the fields that they list
abbrev pub seen_from : List ℕ → Marks → Text → ℕ → ℕ → List Field
seen_from table q s at end = map (field_seen (table_of table) q s) (gathered (map (row_of (name s)) (rows_within at end table)))

-- all of them
pub left-first : {table : List ℕ} {k : ℕ} {r : Span} → Under table k r → Left table k r.start r.end
left-first {table} {k} {r} u =
    let e = sym u.rows in
    record {
      order = omega (arith, u.some);
      inside = u.inside;
      ordered = subst (λ (rs : List (List ℕ)). Ordered rs) e u.ordered;
      numbered = subst (λ (rs : List (List ℕ)). are_of k rs ≡ true) e u.numbered;
      guided = subst (λ (rs : List (List ℕ)). guides r.start rs ≡ true) e u.guided;
    }

pub seen_all : {table : List ℕ} {k : ℕ} {r : Span} (q : Marks) (s : Text) → HasNumber s k → Under table k r
    → (segment_seen (table_of table) q s).fields ≡ seen_from table q s r.start r.end
unfolding segment_seen
seen_all {table} {k} {r} q s h u =
    ap (map (field_seen (table_of table) q s))
    (rules_under table (name s) k h.0 h.1 ∙ ap (λ (rs : List (List ℕ)). gathered (map (row_of (name s)) rs)) (sym u.rows))

-- A FIELD IS AHEAD: its rows begin at `at`, and those of the next one at `e`
pub record Ahead (table : List ℕ) (k at end e : ℕ) : Type 0 where
  pub left : Left table k at end
  pub more : row_size ≤ end - at
  pub is : e ≡ at + of_field (get_or table (at + field_column) 0) (rows_within at end table) * row_size

-- as the row says
pub ahead : {table : List ℕ} {k at end e : ℕ} → Left table k at end → row_size ≤ end - at → e ≡ get_or table (at + next_column) 0 → Ahead table k at end e
ahead {table} {at = at} {end = end} left more e = record { left = left; more = more; is = e ∙ next-begins table at end more left.guided }

module _ {table : List ℕ} {k at end e : ℕ} (w : Ahead table k at end e) where
  pub ahead_row : at + row_size ≤ length table
  ahead_row = omega (arith, w.more, w.left.order, w.left.inside)

  pub ahead_bounds : (at + row_size ≤ e) × (e ≤ end)
  ahead_bounds = field_bounds table at end e w.more w.left.inside w.is

  pub ahead_falls : end - e < end - at
  ahead_falls = omega (arith, ahead_bounds, w.more)

  pub ahead-field : IsField table k at e
  ahead-field = field_is table at end e w.more w.left.inside w.is k w.left.ordered w.left.numbered w.left.guided

  pub ahead-number : first_field k ≤ get_or table (at + field_column) 0
  ahead-number = field-low table k at e ahead-field

  pub ahead-later : row_size ≤ end - e → get_or table (at + field_column) 0 < get_or table (e + field_column) 0
  ahead-later l = field-later table at end e w.more w.left.inside w.is k w.left.ordered w.left.numbered l

  pub left-on : Left table k e end
  left-on =
      record {
        order = ahead_bounds.1;
        inside = w.left.inside;
        ordered = ordered-rest table at end e w.more w.left.inside w.is w.left.ordered;
        numbered = of_rest table at end e w.more w.left.inside w.is k w.left.numbered;
        guided = guided-rest table at end e w.more w.left.inside w.is w.left.guided;
      }

  pub seen-on : (q : Marks) (s : Text) → seen_from table q s at end ≡ field_seen (table_of table) q s (rule_at table at e) ∷ seen_from table q s e end
  seen-on q s = ap (map (field_seen (table_of table) q s)) (rules_at table at end e w.more w.left.inside w.is (name s))

-- none is left
pub seen_none : (table : List ℕ) (at end : ℕ) (q : Marks) (s : Text) → end - at < row_size → seen_from table q s at end ≡ []
unfolding gathered
seen_none table at end q s l = rw (rows_none table at end l)

-- WHETHER A LISTED FIELD IS FILLED, told from where the loop stands
pub record Seeks (table : List ℕ) (q : Marks) (s : Text) (k number at end : ℕ) : Type 0 where
  pub left : Left table k at end
  pub told : is_required (C number) (segment_seen (table_of table) q s).fields ≡ is_required (C number) (seen_from table q s at end)

pub seeks_first : {table : List ℕ} (q : Marks) (s : Text) {k : ℕ} (number : ℕ) {r : Span} → HasNumber s k → Under table k r
    → Seeks table q s k number r.start r.end
seeks_first q s number h u = record { left = left-first u; told = ap (is_required (C number)) (seen_all q s h u) }

and_no : (b c : Bool) → c ≡ false → b && c ≡ false
and_no true c z = z
and_no false c z = refl

module _ {table : List ℕ} {q : Marks} {s : Text} {k number at end e : ℕ} (w : Seeks table q s k number at end) (a : Ahead table k at end e) where
  abbrev v : Field
  v = field_seen (table_of table) q s (rule_at table at e)

  abbrev its : ℕ
  its = get_or table (at + field_column) 0

  -- the next field, then the rest
  told-on : is_required (C number) (segment_seen (table_of table) q s).fields ≡ (eqb its number && first_filled v) || is_required (C number) (seen_from table q s e end)
  unfolding some field_seen
  told-on = w.told ∙ ap (is_required (C number)) (seen-on a q s)

  pub seeks_found : its ≡ number → {r : Bool} → r ≡ first_filled v → r ≡ true → true ≡ is_required (C number) (segment_seen (table_of table) q s).fields
  seeks_found n f y = sym (told-on ∙ rw (eq-eqb its number n, ← f, y))

  rest : eqb its number && first_filled v ≡ false → Seeks table q s k number e end
  rest z = record { left = left-on a; told = told-on ∙ rw z }

  pub seeks_empty : {r : Bool} → r ≡ first_filled v → r ≡ false → Seeks table q s k number e end
  seeks_empty f y = rest (and_no (eqb its number) (first_filled v) (sym f ∙ y))

  pub seeks_other : (its ≡ number → ⊥) → Seeks table q s k number e end
  seeks_other n = rest (rw (ne_eqb its number n))

pub seeks_none : {table : List ℕ} {q : Marks} {s : Text} {k number at end : ℕ} → Seeks table q s k number at end → end - at < row_size
    → false ≡ is_required (C number) (segment_seen (table_of table) q s).fields
unfolding some
seeks_none {table} {q} {s} {number = number} {at = at} {end = end} w l = sym (w.told ∙ ap (is_required (C number)) (seen_none table at end q s l))
