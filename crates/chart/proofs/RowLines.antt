-- The lines of a row: none where its leaf has no list, or its list is not asked for; else its line.
use mathlib.Core.Path.{◌≡◌, refl, sym, ap, ◌∙◌}
use Prim.Native.Nat.{ℕ, zero, suc, ◌+◌, ◌-◌, ◌≤◌, ◌<◌}
use native.Mathlib.Omega.{arith}
use mathlib.Core.Bool.{Bool, true, false, ◌&&◌, ◌||◌}
use mathlib.Core.List.{List, [], ◌∷◌}
use lib.ListN.{get_or, drop}
use lib.Seq.{get_or-drop}
use lib.Dec.{eqb, leb, ltb}
use borrow.Author.Tests.{eqb-true, eqb-false, leb-true, leb-false, lt-ltb, le-ltb}
use Rattle.text.specs.Bytes.{Text, pick, keep, same}
use Rattle.text.proofs.Tests.{within-high}
use Rattle.text.proofs.Lists.{or_either, or-none}
use Rattle.parts.specs.Split.{closed}
use Rattle.profile.specs.Table.{any, Leaf, leaf, named_by_field}
use Rattle.profile.specs.Numbers.{field_column, component_column, type_column, list_column, reason_column, named_by, codes_in, codes_of, leaf_of, listed_of}
use Rattle.profile.specs.Order.{reason_fits}
use Rattle.chart.specs.Chart.{Charted, leaf_lists, row_lists, is_asked, lines_of}
use Rattle.chart.specs.Inner.{row_charted, row_line, asked_lines, row_lines}

-- no list; the same of the row that begins at a place of a table, and whether its list is asked for, as the code tests them
abbrev has_none : List ℕ → Bool
has_none r = eqb (get_or r list_column 0) 0 || leb named_by (get_or r type_column 0)

abbrev none_at : List ℕ → ℕ → Bool
none_at table row = eqb (get_or table (row + list_column) 0) 0 || leb named_by (get_or table (row + type_column) 0)

abbrev asked_at : Text → ℕ → ℕ → Text → List ℕ → ℕ → Bool
asked_at name f k n table row =
    eqb f 0 || (same name n && eqb f (get_or table (row + field_column) 0) && (eqb k 0 || eqb k (get_or table (row + component_column) 0)))

-- a row that has one: its type is no other field's, and its list has a number
some-type : (r : List ℕ) → has_none r ≡ false → get_or r type_column 0 < named_by
some-type r e = leb-false named_by (get_or r type_column 0) (or-none (eqb (get_or r list_column 0) 0) (leb named_by (get_or r type_column 0)) e).1

some-list : (r : List ℕ) → has_none r ≡ false → get_or r list_column 0 ≡ 0 → ⊥
some-list r e = eqb-false (get_or r list_column 0) 0 (or-none (eqb (get_or r list_column 0) 0) (leb named_by (get_or r type_column 0)) e).0

fits-step : (i reason : ℕ) → (i ≡ 0 → ⊥) → reason_fits (codes_of i reason) ≡ true → reason ≤ 12
fits-step zero reason h e = absurd (h refl)
fits-step (suc i) reason h e = within-high 1 12 reason e

-- a list's number tells whether there is one
module _ (n : Text) (field : ℕ) (alone : Bool) where
  any_step : (b : Bool) (l : Leaf) (g : ℕ) → l.list ≡ any → row_lists n field alone (pick b (leaf l) (named_by_field g)) ≡ []
  any_step true l g e = rw e
  any_step false l g e = refl

  only_step : (i c reason : ℕ) → (i ≡ 0 → ⊥)
      → leaf_lists n field alone c (codes_of i reason)
      ≡ record { segment = n; field = field; component = c; alone = alone; codes = codes_in (codes_of i reason); reason = reason } ∷ []
  only_step zero c reason h = absurd (h refl)
  only_step (suc i) c reason h = refl

-- THE LISTS OF A ROW: none, or one
module _ (n : Text) (alone : Bool) (r : List ℕ) where
  abbrev listed : List Charted
  listed = row_lists n (get_or r field_column 0) alone (listed_of r)

  listed-none : has_none r ≡ true → listed ≡ []
  listed-none e =
      or_either (eqb (get_or r list_column 0) 0) (leb named_by (get_or r type_column 0))
      (λ h. any_step n (get_or r field_column 0) alone (ltb (get_or r type_column 0) named_by) (leaf_of r) (get_or r type_column 0 - named_by)
      (rw (eqb-true (get_or r list_column 0) 0 h)))
      (λ h. rw (le-ltb (get_or r type_column 0) named_by (leb-true named_by (get_or r type_column 0) h)))
      e

  listed-one : has_none r ≡ false → listed ≡ row_charted n alone r ∷ []
  listed-one e =
      rw (lt-ltb (get_or r type_column 0) named_by (some-type r e))
      (only_step n (get_or r field_column 0) alone (get_or r list_column 0) (get_or r component_column 0) (get_or r reason_column 0) (some-list r e))

-- THE LINES OF THE ROW that begins at a place of a table, by what the code reads there
module _ (name : Text) (f k : ℕ) (n : Text) (alone : Bool) (table : List ℕ) (row : ℕ) where
  abbrev r : List ℕ
  r = drop row table

  none-at : has_none r ≡ none_at table row
  none-at = rw (get_or-drop row table list_column 0, get_or-drop row table type_column 0)

  pub no_list : none_at table row ≡ true → row_lines name f k n alone r ≡ []
  unfolding keep closed
  no_list e = ap (asked_lines name f k) (listed-none n alone r (none-at ∙ e))

  module _ (some : none_at table row ≡ false) (asked : Bool) (told : asked ≡ asked_at name f k n table row) where
    pub reason-fits : (get_or r type_column 0 < named_by → reason_fits (leaf_of r).list ≡ true) → get_or r reason_column 0 < 256
    reason-fits h =
        let e = none-at ∙ some in
        omega (arith, fits-step (get_or r list_column 0) (get_or r reason_column 0) (some-list r e) (h (some-type r e)))

    asked_is : asked ≡ is_asked name f k (row_charted n alone r)
    asked_is = told ∙ rw (get_or-drop row table field_column 0, get_or-drop row table component_column 0)

    one_line : row_lines name f k n alone r ≡ lines_of (pick asked (row_charted n alone r ∷ []) [])
    unfolding keep
    one_line =
        ap (asked_lines name f k) (listed-one n alone r (none-at ∙ some))
        ∙ ap (λ (b : Bool). lines_of (pick b (row_charted n alone r ∷ []) [])) (sym asked_is)

    pub not-asked : asked ≡ false → row_lines name f k n alone r ≡ []
    unfolding closed
    not-asked e = one_line ∙ rw e

    pub is_line : asked ≡ true → row_lines name f k n alone r ≡ row_line n alone r
    unfolding closed
    is_line e = one_line ∙ rw e
