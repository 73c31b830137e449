-- Laws of a field as it stands in a slip, and of the count after the fields.
use mathlib.Core.Path.{◌≡◌, sym, ap, subst, ◌∙◌}
use Rattle.std.proofs.Common.{Option, Some, None}
use Prim.Native.Nat.{ℕ, ◌+◌, ◌*◌, ◌-◌, ◌≤◌}
use native.Mathlib.Nat.{add-zero}
use native.Mathlib.Omega.{arith}
use mathlib.Core.Bool.{Bool, true, false, not, ◌&&◌}
use mathlib.Core.List.{[]}
use lib.ListN.{length, get_or, take, drop}
use lib.Seq.{get_or-drop, drop-drop}
use lib.Dec.{eqb, leb}
use borrow.Author.Tests.{eq-eqb, ne_eqb, leb-true, not-true, not-false}
use Rattle.text.specs.Bytes.{Text, pick, printable, every, within}
use Rattle.text.specs.Ranges.{◌to◌, is_within}
use Rattle.text.proofs.Tests.{both}
use Rattle.text.proofs.Lists.{part-rest}
use Rattle.tags.specs.Fields.{control_tag, placer_tag, count_tag, longest_control, longest_text, greatest_count, count_size, most_of, expected_of, size, value, has_tag, Expected, is_there, taken, is_zero, is_slip_from}
use Rattle.tags.specs.Inner.{ReadsTag}

-- a field as its bytes in the slip tell it
module _ (s : Text) (at : ℕ) where
  first-at : get_or (drop at s) 0 0 ≡ get_or s at 0
  first-at = get_or-drop at s 0 0 ∙ ap (λ (i : ℕ). get_or s i 0) (add-zero at)

  tag_at : (k : ℕ) (b : Bool) → eqb (get_or s at 0) k ≡ b → has_tag k (drop at s) ≡ b
  tag_at k b e = rw first-at e

  size-at : (n : ℕ) → n ≡ get_or s (at + 1) 0 * 256 + get_or s (at + 2) 0 → size (drop at s) ≡ n
  size-at n e = rw (get_or-drop at s 1 0, get_or-drop at s 2 0) (sym e)

  value-at : (n : ℕ) → size (drop at s) ≡ n → value (drop at s) ≡ within (at + 3) (at + 3 + n) s
  value-at n e =
      let h : n ≡ at + 3 + n - (at + 3) = omega arith in
      rw (e, drop-drop 3 at s) (ap (λ (j : ℕ). take j (drop (at + 3) s)) h)

-- what is asked of a field with its tag, and of one without it
there_as : (x : Expected) (t v : Text) (n : ℕ) → has_tag x.tag t ≡ true → value t ≡ v → size t ≡ n
    → is_there x t ≡ is_within (1 to x.most) n && every printable v
there_as x t v n h e f = rw (h, e, f)

taken_as : (x : Expected) (t : Text) (n : ℕ) → has_tag x.tag t ≡ true → size t ≡ n → taken x t ≡ 3 + n
taken_as x t n h e = rw (h, e)

gone_as : (x : Expected) (t : Text) → has_tag x.tag t ≡ false → (is_there x t ≡ x.optional) × (taken x t ≡ 0)
gone_as x t h = (rw h, rw h)

most-small : (b : Bool) → pick b longest_control longest_text ≤ longest_text
most-small true = omega arith
most-small false = omega arith

pub number_small : (k n most : ℕ) → most ≡ most_of k → not (leb 1 n && leb n most) ≡ false → n ≤ longest_text
number_small k n most limit fits =
    let h = both (leb 1 n) (leb n most) (not-false (leb 1 n && leb n most) fits) in
    omega (arith, leb-true n most h.1, limit, most-small (eqb k control_tag))

-- what a field's tests answer, one after another
module _ (s : Text) (at k : ℕ) where
  module _ (gone : get_or s at 0 ≡ k → ⊥) where
    left_out : (is_there (expected_of k) (drop at s) ≡ eqb k placer_tag) × (taken (expected_of k) (drop at s) ≡ 0)
    left_out = gone_as (expected_of k) (drop at s) (tag_at s at k false (ne_eqb (get_or s at 0) k gone))

    pub field_skipped : k ≡ placer_tag → ReadsTag s at k (Some at)
    field_skipped e = (left_out.0 ∙ eq-eqb k placer_tag e, (omega (arith, left_out.1), omega arith))

    pub field-missing : (k ≡ placer_tag → ⊥) → ReadsTag s at k None
    field-missing n = left_out.0 ∙ ne_eqb k placer_tag n

  module _ (there : get_or s at 0 ≡ k) (n most : ℕ) (number : n ≡ get_or s (at + 1) 0 * 256 + get_or s (at + 2) 0) (limit : most ≡ most_of k) where
    tagged : has_tag k (drop at s) ≡ true
    tagged = tag_at s at k true (eq-eqb (get_or s at 0) k there)

    asked : is_there (expected_of k) (drop at s) ≡ (leb 1 n && leb n most) && every printable (within (at + 3) (at + 3 + n) s)
    asked =
        let e = size-at s at n number in
        rw limit (there_as (expected_of k) (drop at s) (within (at + 3) (at + 3 + n) s) n tagged (value-at s at n e) e)

    pub field-length : not (leb 1 n && leb n most) ≡ true → ReadsTag s at k None
    field-length w = asked ∙ rw (not-true (leb 1 n && leb n most) w)

    module _ (fits : not (leb 1 n && leb n most) ≡ false) where
      module _ (b : Bool) (plain : b ≡ every printable (within (at + 3) (at + 3 + n) s)) where
        printed : is_there (expected_of k) (drop at s) ≡ b
        printed = asked ∙ rw (not-false (leb 1 n && leb n most) fits) (sym plain)

        pub field-bytes : not b ≡ true → ReadsTag s at k None
        field-bytes w = printed ∙ not-true b w

        pub field-read : not b ≡ false → ReadsTag s at k (Some (at + 3 + n))
        field-read w =
            let takes = taken_as (expected_of k) (drop at s) n tagged (size-at s at n number) in
            (printed ∙ not-false b w, (omega (arith, takes), omega (arith, number_small k n most limit fits)))

-- the count and the zeros after it
pub ends_as : (s : Text) (at n count : ℕ) (b : Bool) → n ≡ get_or s (at + 1) 0 * 256 + get_or s (at + 2) 0
    → count ≡ get_or s (at + 3) 0 * 256 + get_or s (at + 4) 0 → b ≡ every is_zero (within (at + count_size) (length s) s)
    → eqb (get_or s at 0) count_tag && eqb n 2 && leb count greatest_count && b ≡ is_slip_from [] (drop at s)
unfolding is_slip_from
ends_as s at n count b e f z =
    rw (e, f, z, part-rest (at + count_size) s, drop-drop count_size at s, first-at s at, get_or-drop at s 1 0, get_or-drop at s 2 0, get_or-drop at s 3 0, get_or-drop at s 4 0)

-- along which case of the answer it is
pub field_as : (s : Text) (at k : ℕ) (r f : Option ℕ) → r ≡ f → ReadsTag s at k r → ReadsTag s at k f
field_as s at k r f e h = subst (λ (x : Option ℕ). ReadsTag s at k x) e h
