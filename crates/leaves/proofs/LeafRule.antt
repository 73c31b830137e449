-- The first check that a leaf's text breaks: one law for each way out.
use mathlib.Core.Path.{◌≡◌, refl, sym, ◌∙◌}
use Prim.Native.Nat.{ℕ, zero, suc, ◌+◌, ◌≤◌, ◌<◌}
use native.Mathlib.Omega.{arith}
use mathlib.Core.Bool.{Bool, true, false, not}
use mathlib.Core.List.{List, [], ◌∷◌}
use lib.ListN.{length, get_or, drop}
use lib.Seq.{get_or-drop}
use lib.Dec.{eqb}
use borrow.Author.Tests.{eq-eqb, ne_eqb, lt-ltb, le-ltb, eqb-true, eqb-false}
use Rattle.text.specs.Bytes.{Text, pick, empty}
use Rattle.escape.specs.Escape.{bad_escape, resolved}
use Rattle.escape.specs.Length.{Measures}
use Rattle.text.specs.declared.marks.Marks.{Marks}
use Rattle.text.specs.Ranges.{◌to◌, is_within}
use Rattle.text.proofs.Tests.{not-true as no, empty-none, empty-some}
use Rattle.profile.specs.Table.{Codes, any, only, Leaf, of_type, no_such_day}
use Rattle.profile.specs.Numbers.{leaf_of, simple_of, codes_of, is_in_list, limit_column, list_column, reason_column, star_column, type_column}
use Rattle.profile.specs.Order.{reason_fits}
use Rattle.profile.proofs.Days.{empty_day}
use Rattle.escape.proofs.Escapes.{bad-none, resolved-length}
use Rattle.codes.proofs.Numbered.{other-type, other_day}
use Rattle.checks.specs.Place.{Place}
use Rattle.checks.specs.Fault.{Verdict, accepted, fault, Check, check, list_checks, leaf_checks, first_broken}
use Rattle.std.specs.Prelude.{Some, Result, Ok, Err}
use Rattle.checks.specs.declared.reasons.Reason.{Reason}
use Rattle.checks.specs.declared.reasons.Reason.TheVariants.{NotOfItsType, NoSuchDay}
use Rattle.checks.specs.Reasons.{number_of_reason}
use Rattle.leaves.specs.Judged.{told, type_reason}
use Rattle.leaves.proofs.Breaks.{or_else}

-- what the test for no bytes says
pub bytes_none : (s : Text) (r : Bool) → r ≡ eqb (length s) 0 → r ≡ true → length s ≡ 0
bytes_none s r e h = eqb-true (length s) 0 (sym e ∙ h)

pub bytes_some : (s : Text) (r : Bool) → r ≡ eqb (length s) 0 → r ≡ false → length s ≡ 0 → ⊥
bytes_some s r e h = eqb-false (length s) 0 (sym e ∙ h)

-- no bytes, no escape
no_escape : (q : Marks) (s : Text) → length s ≡ 0 → bad_escape q s ≡ false
no_escape q [] e = bad-none q
no_escape q (b ∷ s) e = absurd (omega arith)

-- a text with a bad escape has some bytes, and nothing is told before it
some_bytes : (q : Marks) (s : Text) → bad_escape q s ≡ true → empty s ≡ false
some_bytes q [] e = no (sym (bad-none q) ∙ e)
some_bytes q (b ∷ s) e = refl

pub rule-escape : (q : Marks) (l : Leaf) (s : Text) → bad_escape q s ≡ true → (p : Place) → fault p 6 ≡ first_broken (leaf_checks q p l s)
unfolding first_broken
rule-escape q l s e p = rw (some_bytes q s e, e)

-- the list's check, where there is one: Empty passes; any other text is in the list or not
no_text : (p : Place) (c : Codes) (s : Text) → empty s ≡ true → first_broken (list_checks p c s) ≡ accepted
unfolding first_broken
no_text p any s e = refl
no_text p (only codes n) s e = rw e

by_list : (p : Place) (i n : ℕ) (s : Text) → empty s ≡ false → first_broken (list_checks p (codes_of i n) s) ≡ pick (not (is_in_list i s)) (fault p n) accepted
unfolding first_broken
by_list p zero n s e = refl
by_list p (suc i) n s e = rw e

-- so where a text is not in its list there is one, and its reason is from 1 to 12
reason_range : (i n : ℕ) (s : Text) (listed : Bool) → listed ≡ is_in_list i s → not listed ≡ true → reason_fits (codes_of i n) ≡ true → is_within (1 to 12) n ≡ true
reason_range zero n s true e f h = no f
reason_range zero n s false e f h = no e
reason_range (suc i) n s listed e f h = h

pub row_reason : (table : List ℕ) (at : ℕ) (s : Text) (listed : Bool) → listed ≡ is_in_list (get_or table (at + list_column) 0) s → not listed ≡ true
    → reason_fits (leaf_of (drop at table)).list ≡ true → is_within (1 to 12) (get_or table (at + reason_column) 0) ≡ true
row_reason table at s listed e f h =
    reason_range (get_or table (at + list_column) 0) (get_or table (at + reason_column) 0) s listed e f
    (rw (get_or-drop at table list_column 0, get_or-drop at table reason_column 0) at h)

-- the form, the day, and what comes after them
type-step : (typed no_such : Bool) (p : Place) (cs : List Check)
    → first_broken (check p 7 (not typed) ∷ check p 13 no_such ∷ cs) ≡ or_else (told p (pick typed (pick no_such (Err NoSuchDay) (Ok tt)) (Err NotOfItsType))) (first_broken cs)
unfolding first_broken
type-step true true p cs = refl
type-step true false p cs = refl
type-step false no_such p cs = refl

module _ (q : Marks) (table : List ℕ) (at : ℕ) (s : Text) where
  abbrev number : ℕ → ℕ
  number i = get_or table (at + i) 0

  abbrev typed : Bool
  typed = of_type (simple_of (number type_column)) s

  abbrev no_such : Bool
  no_such = no_such_day (simple_of (number type_column)) s

  abbrev list : Codes
  list = codes_of (number list_column) (number reason_column)

  abbrev first : Place → Verdict
  first p = first_broken (leaf_checks q p (leaf_of (drop at table)) s)

  module _ (none : length s ≡ 0) where
    pub rule-missing : number star_column ≡ 1 → (p : Place) → fault p 3 ≡ first p
    unfolding first_broken
    rule-missing e p = rw (empty-none s none, get_or-drop at table star_column 0, eq-eqb (number star_column) 1 e)

    pub rule-empty : (number star_column ≡ 1 → ⊥) → (p : Place) → accepted ≡ first p
    unfolding first_broken
    rule-empty e p =
        rw (no_text p (leaf_of (drop at table)).list s (empty-none s none), empty_day (leaf_of (drop at table)).type s none, empty-none s none, no_escape q s none, get_or-drop at table star_column 0, ne_eqb (number star_column) 1 e, le-ltb (get_or (drop at table) limit_column 0) (length (resolved q s)) (omega (arith, resolved-length q s)))

  module _ (some : length s ≡ 0 → ⊥) where
    filled : empty s ≡ false
    filled = empty-some s some

    module _ (n : ℕ) (measured : Measures q s (Some n)) where
      pub rule-long : number limit_column < n → (p : Place) → fault p 5 ≡ first p
      unfolding first_broken
      rule-long l p = rw (filled, measured.0, get_or-drop at table limit_column 0, ← measured.1, lt-ltb (number limit_column) n l)

      module _ (fits : n ≤ number limit_column) where
        short : (p : Place) → first p ≡ first_broken (check p 7 (not typed) ∷ check p 13 no_such ∷ list_checks p list s)
        unfolding first_broken
        short p = rw (filled, measured.0, get_or-drop at table limit_column 0, ← measured.1, le-ltb (number limit_column) n fits, get_or-drop at table type_column 0, get_or-drop at table list_column 0, get_or-drop at table reason_column 0)

        module _ (why : Result Unit Reason) (is-why : why ≡ type_reason (simple_of (number type_column)) s) where
          by_type : (p : Place) → first p ≡ or_else (told p why) (first_broken (list_checks p list s))
          by_type p = rw (short p, is-why) (type-step typed no_such p (list_checks p list s))

          pub rule-type : (r : Reason) → why ≡ Err r → (p : Place) → fault p (number_of_reason r) ≡ first p
          rule-type r e p = rw (by_type p, e)

          module _ (taken : why ≡ Ok tt) (listed : Bool) (is-listed : listed ≡ is_in_list (number list_column) s) where
            pub rule-list : not listed ≡ true → (r : Reason) → number_of_reason r ≡ number reason_column → (p : Place) → fault p (number_of_reason r) ≡ first p
            rule-list e r named p =
                rw (by_type p, taken, by_list p (number list_column) (number reason_column) s filled, ← is-listed, e, named)

            pub rule-good : not listed ≡ false → (p : Place) → accepted ≡ first p
            rule-good e p = rw (by_type p, taken, by_list p (number list_column) (number reason_column) s filled, ← is-listed, e)

-- a leaf whose type and list take any text
takes-any : (n : ℕ) (s : Text) → 4 < n → Ok tt ≡ type_reason (simple_of n) s
takes-any n s h = rw (← other-type n s (λ z. omega (arith, h, z)) (λ z. omega (arith, h, z)) (λ z. omega (arith, h, z)) (λ z. omega (arith, h, z)), other_day n s (λ z. omega (arith, h, z)))

pub rule-any : (q : Marks) (table : List ℕ) (at : ℕ) (s : Text) (n : ℕ) → Measures q s (Some n) → 0 < n → n ≤ get_or table (at + limit_column) 0 → 4 < get_or table (at + type_column) 0
    → get_or table (at + list_column) 0 ≡ 0 → (p : Place) → accepted ≡ first_broken (leaf_checks q p (leaf_of (drop at table)) s)
rule-any q table at s n measured some fits type list p =
    rule-good q table at s (λ z. omega (arith, z, some, measured.1, resolved-length q s)) n measured fits (Ok tt)
    (takes-any (get_or table (at + type_column) 0) s type) refl true (rw list) refl p
