-- The first broken check of a field, by its three kinds.
use mathlib.Core.Path.{◌≡◌, refl, sym, ap, ◌∙◌}
use Prim.Native.Nat.{ℕ, ◌+◌, ◌-◌, ◌≤◌}
use native.Mathlib.Numerals.{add-one}
use native.Mathlib.Omega.{arith}
use mathlib.Core.Bool.{Bool, true, false, not, ◌&&◌}
use mathlib.Core.List.{List, [], flat_map}
use lib.ListN.{length, get_or}
use lib.Dec.{ltb}
use borrow.Author.Tests.{le-ltb}
use Rattle.std.proofs.Common.{◌⊎◌, inl, inr, Result, Ok, Err}
use Rattle.text.specs.Bytes.{Text, within}
use Rattle.text.specs.declared.marks.Marks.{Marks}
use Rattle.frame.specs.Segments.{field, unsplit}
use Rattle.profile.specs.Table.{Rule}
use Rattle.profile.specs.Numbers.{first_field, field_column, repetitions_column, usage_column, usage_of, table_of}
use Rattle.text.specs.declared.span.Span.{Span}
use Rattle.codes.specs.Inner.{Lists, IsField, leaves_at, rule_at}
use Rattle.codes.proofs.OneField.{field-low}
use Rattle.fields.specs.declared.field.ReadField.{ReadField}
use Rattle.checks.specs.Repetition.{repetitions_in}
use Rattle.fields.specs.Judged.{filled_in, told_in_field, ReadsField}
use Rattle.checks.specs.Place.{place}
use Rattle.checks.specs.declared.reasons.Reason.TheVariants.{TooManyRepetitions, Missing}
use Rattle.checks.specs.View.{Repetition, Field, field_seen}
use Rattle.checks.specs.Repetition.{filled_from}
use Rattle.checks.specs.Fault.{Verdict, accepted, first_filled, is_required, repetition_checks, field_checks, first_broken}
use Rattle.listing.specs.Listing.{HasNumber}
use Rattle.located.specs.Listed.{leaves_of_field}
use Rattle.usage.specs.Listed.{fields_seen}
use Rattle.usage.proofs.FieldSeen as seen
use Rattle.usage.proofs.FieldSeen.{seen-surplus, seen-filled}
use Rattle.segments.specs.declared.Finding.{Finding}
use Rattle.segments.specs.Judged.{told_at, at_repetition, ReadsFieldAt}

-- an optional field is not required
pub usage-none : (u : ℕ) (vs : List Field) → u ≡ 0 → is_required (usage_of u) vs ≡ false
usage-none u vs e = rw e

-- what stands between a place and itself
pub text-none : (a e : ℕ) (x : Text) → a ≡ e → within a e x ≡ []
text-none a e x h =
    let z : e - a ≡ 0 = omega (arith, h) in
    rw z

-- too many repetitions; missing; else that of its filled repetitions
module _ (q : Marks) (v : Field) (vs : List Field) (n : Text) (o : ℕ) where
  first-surplus : v.surplus ≡ true → told_at n o (Err (at_repetition TooManyRepetitions v.rule.field (v.rule.repetitions + 1))) ≡ first_broken (field_checks q n o vs v)
  unfolding first_broken
  first-surplus e = rw (e, add-one)

  first-missing : v.surplus ≡ false → is_required v.rule.usage vs ≡ true → first_filled v ≡ false
      → told_at n o (Err (at_repetition Missing v.rule.field 1)) ≡ first_broken (field_checks q n o vs v)
  unfolding first_broken
  first-missing e m f = rw (e, m, f)

  first-inside : v.surplus ≡ false → is_required v.rule.usage vs && not (first_filled v) ≡ false
      → (w : Verdict) → w ≡ first_broken (flat_map (repetition_checks q n o v.rule.field) v.filled) → w ≡ first_broken (field_checks q n o vs v)
  unfolding first_broken
  first-inside e m w h = rw (e, m) h

and_no : (b c : Bool) → c ≡ true → b && not c ≡ false
and_no true c e = rw e
and_no false c e = refl

-- A FIELD OF A SEGMENT, and the text that stands there
pub record FieldText (q : Marks) (table : List ℕ) (s : Text) (k at end : ℕ) (x : Text) : Type 0 where
  pub numbered : HasNumber s k
  pub rows : IsField table k at end
  pub text : x ≡ field q s (get_or table (at + field_column) 0)

module _ {q : Marks} {table : List ℕ} {s : Text} {k at end : ℕ} {x : Text} (h : FieldText q table s k at end x) where
  abbrev u : Rule
  u = rule_at table at end

  abbrev v : Field
  v = field_seen (table_of table) q s u

  abbrev required : Bool
  required = is_required (usage_of (get_or table (at + usage_column) 0)) (fields_seen table q s)

  low : first_field k ≤ u.field
  low = field-low table k at end h.rows

  cut : unsplit s u.field ≡ false
  cut = seen.cut q table s k at end h.numbered low

  -- of no bytes it breaks nothing unless it is required
  module _ (none : x ≡ []) where
    few-none : v.surplus ≡ false
    few-none =
        seen-surplus (table_of table) q s u x h.text cut
        ∙ ap (λ (y : Text). ltb u.repetitions (length (repetitions_in q y))) none
        ∙ le-ltb u.repetitions 0 (omega arith)

    filled_none : v.filled ≡ []
    unfolding filled_from
    filled_none = seen-filled (table_of table) q s u x h.text cut ∙ ap (filled_in q (leaves_of_field q table s at end)) none

    pub none_passes : required ≡ false → ReadsFieldAt q table s at end (Ok tt)
    unfolding field_seen first_broken flat_map
    none_passes y n o = first-inside q v (fields_seen table q s) n o few-none (rw y) accepted (rw filled_none)

  -- what was read of it, by the rows of its leaves, tells its first broken check
  module _ {rows : Span} (lists : Lists table rows (leaves_of_field q table s at end)) {a : ReadField} (by_rows : ReadsField q (leaves_at table rows) (get_or table (at + repetitions_column) 0) x a) where
    reads : ReadsField q (leaves_of_field q table s at end) u.repetitions x a
    reads = seen.reads q table s k at end h.numbered low x h.text rows lists a by_rows

    surplus-is : a.surplus ≡ v.surplus
    surplus-is = seen.surplus-is q table s k at end h.numbered low x h.text rows lists a by_rows

    filled_is : a.filled ≡ first_filled v
    filled_is = seen.filled_is q table s k at end h.numbered low x h.text rows lists a by_rows

    pub judged-surplus : a.surplus ≡ true
        → ReadsFieldAt q table s at end (Err (at_repetition TooManyRepetitions (get_or table (at + field_column) 0) (get_or table (at + repetitions_column) 0 + 1)))
    unfolding field_seen
    judged-surplus y n o = first-surplus q v (fields_seen table q s) n o (sym surplus-is ∙ y)

    -- what is found inside it
    module _ (w : Result Unit Finding) (tells : (n : Text) (o : ℕ) → told_at n o w ≡ told_in_field (place n o u.field) a.broken) where
      judged-inside : a.surplus ≡ false → required && not (first_filled v) ≡ false → ReadsFieldAt q table s at end w
      unfolding field_seen
      judged-inside few m n o =
          let f = u.field in
          first-inside q v (fields_seen table q s) n o (sym surplus-is ∙ few) m (told_at n o w)
          (tells n o ∙ reads.first few n o f
          ∙ ap (λ (rs : List Repetition). first_broken (flat_map (repetition_checks q n o f) rs)) (sym (seen-filled (table_of table) q s u x h.text cut)))

      -- a field that is not required, or that is filled
      pub judged-found : a.surplus ≡ false → (required ≡ false) ⊎ (a.filled ≡ true) → ReadsFieldAt q table s at end w
      judged-found few (inl y) = judged-inside few (rw y)
      judged-found few (inr e) = judged-inside few (and_no required (first_filled v) (sym filled_is ∙ e))

    pub judged-missing : a.surplus ≡ false → required ≡ true → a.filled ≡ false
        → ReadsFieldAt q table s at end (Err (at_repetition Missing (get_or table (at + field_column) 0) 1))
    unfolding field_seen
    judged-missing few y e n o = first-missing q v (fields_seen table q s) n o (sym surplus-is ∙ few) y (sym filled_is ∙ e)
