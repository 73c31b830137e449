-- Laws of reading a slip, field after field.
use mathlib.Core.Path.{◌≡◌, refl, sym, ap, ◌∙◌}
use Prim.Native.Nat.{ℕ, zero, suc, ◌+◌, ◌*◌, ◌-◌, ◌≤◌, ◌<◌}
use native.Mathlib.Nat.{add-zero}
use native.Mathlib.Omega.{arith}
use mathlib.Core.Bool.{Bool, true, false, not, ◌&&◌}
use mathlib.Core.List.{List, [], ◌∷◌}
use mathlib.Core.Option.{Option, none, some}
use Rattle.std.proofs.Common as std
use Rattle.std.proofs.Common.{Some, None, Result, Ok, Err}
use Rattle.std.specs.Option.{ok_or}
use lib.ListN.{drop}
use lib.Seq.{drop-drop}
use lib.Dec.{eqb, ltb}
use borrow.Author.Tests.{eq-eqb, ne_eqb, eqb-true, ltb-true, ltb-false, not-true, not-false}
use Rattle.text.specs.Bytes.{Text, pick, within}
use Rattle.text.specs.Answer.{Answer, refused, given, test, first}
use Rattle.text.specs.declared.refusal.Refusal.TheVariants.{NoSlot, BadSlip, NoTag}
use Rattle.text.proofs.Tests.{both}
use Rattle.slip.specs.Slot.{slot_size, slot_start, no_slot}
use Rattle.text.specs.declared.refusal.Refusal.{Refusal}
use Rattle.text.specs.declared.span.Span.{Span}
use Rattle.tags.specs.Fields.{placer_tag, count_tag, head_size, count_size, most_of, expected_of, size, has_tag, Expected, expect, taken, is_slip_from}
use Rattle.book.specs.Read.{expected, is_slip, Part, value_from, is_none, or_nothing, read_slip}
use Rattle.book.specs.Told.{value_of}
use Rattle.tags.specs.Inner.{longest_field, ReadsTag}
use Rattle.book.specs.Inner.{read_in}

-- the fields of n tags from k on
unfoldable pub fields_from : ℕ → ℕ → List Expected
fields_from zero k = []
fields_from (suc n) k = expected_of k ∷ fields_from n (k + 1)

abbrev pub part : ℕ → ℕ → Part
part a e = record { start = a; end = e }

-- a field's value where its tag is asked for, and none of it otherwise
module _ (k most : ℕ) (o : Bool) (xs : List Expected) (tag base at e : ℕ) (s : Text) (ends : e ≡ at + taken (expect k most o) (drop at s)) where
  here-step : (h : Bool) (n : ℕ) → e ≡ at + pick h (head_size + n) 0 → at < e → (h ≡ true) × (e ≡ at + head_size + n)
  here-step true n q l = (refl, omega arith)
  here-step false n q l = absurd (omega arith)

  gone_step : (h : Bool) (n : ℕ) → e ≡ at + pick h (head_size + n) 0 → e ≤ at → h ≡ false
  gone_step true n q l = absurd (omega arith)
  gone_step false n q l = refl

  value-here : eqb tag k && ltb at e ≡ true → value_from (expect k most o ∷ xs) tag (base + at) (drop at s) ≡ some (part (base + at + head_size) (base + e))
  unfolding value_from
  value-here w =
      let b = both (eqb tag k) (ltb at e) w in
      let h = here-step (has_tag k (drop at s)) (size (drop at s)) ends (ltb-true at e b.1) in
      rw (eqb-true tag k b.0, eq-eqb k k refl, h.0)
      (ap (λ (j : ℕ). some (part (base + at + head_size) j)) (omega (arith, h.1)))

  not-here : (b : Bool) → eqb tag k ≡ b → b && ltb at e ≡ false → eqb tag k && has_tag tag (drop at s) ≡ false
  not-here false q w = rw q
  not-here true q w =
      rw (q, eqb-true tag k q) (gone_step (has_tag k (drop at s)) (size (drop at s)) ends (ltb-false at e w))

  value_past : eqb tag k && ltb at e ≡ false → value_from (expect k most o ∷ xs) tag (base + at) (drop at s) ≡ value_from xs tag (base + e) (drop e s)
  unfolding value_from
  value_past w =
      rw (not-here (eqb tag k) refl w, drop-drop (taken (expect k most o) (drop at s)) at s, ← ends)
      (ap (λ (j : ℕ). value_from xs tag j (drop e s)) (omega arith))

-- the tag's value where the fields before k were read: it was not among them, and is told from the rest; or it was
pub data Seen (tag k : ℕ) (all rest : Option Part) : std.Option Span → Type 0 where
  not_yet : all ≡ rest → Seen tag k all rest None
  there : (s : Span) → tag < k → all ≡ some (part s.start s.end) → Seen tag k all rest (Some s)

seen_here : (tag k : ℕ) (s : Span) (all rest rest' : Option Part) (v : std.Option Span) → tag ≡ k → rest ≡ some (part s.start s.end) → Seen tag k all rest v
    → Seen tag (k + 1) all rest' (Some s)
seen_here tag k s all rest rest' v t h (not_yet w) = there s (omega arith) (w ∙ h)
seen_here tag k s all rest rest' v t h (there b l w) = absurd (omega arith)

seen_past : (tag k : ℕ) (all rest rest' : Option Part) (v : std.Option Span) → rest ≡ rest' → Seen tag k all rest v → Seen tag (k + 1) all rest' v
seen_past tag k all rest rest' v h (not_yet w) = not_yet (w ∙ h)
seen_past tag k all rest rest' v h (there s l w) = there s (omega arith) w

seen-count : (tag k : ℕ) (all rest : Option Part) (v : std.Option Span) → k ≤ tag → Seen tag k all rest v → all ≡ rest
seen-count tag k all rest v h (not_yet w) = w
seen-count tag k all rest v h (there s l w) = absurd (omega arith)

-- what a tag's value answers
abbrev answered : Option Part → Answer Part
answered o = first (test NoTag (is_none o) ∷ []) (or_nothing o)

seen_last : (tag k : ℕ) (all rest : Option Part) (v : std.Option Span) → rest ≡ none → Seen tag k all rest v → value_of (ok_or v NoTag) ≡ answered all
unfolding first
seen_last tag k all rest v h (not_yet w) = rw (w, h)
seen_last tag k all rest v h (there s l w) = rw w

slip_answers : (s : Text) (base tag : ℕ) → is_slip s ≡ true → answered (value_from expected tag base s) ≡ read_in s base tag
unfolding first
slip_answers s base tag e = rw e

count-there : (tag base at : ℕ) (t : Text) → tag ≡ count_tag → value_from [] tag (base + at) t ≡ some (part (base + at + head_size) (base + (at + count_size)))
unfolding value_from
count-there tag base at t e =
    let h : base + at + head_size + 2 ≡ base + (at + count_size) = omega arith in
    rw (eq-eqb tag count_tag e) (ap (λ (j : ℕ). some (part (base + at + head_size) j)) h)

no_other : (tag k : ℕ) (t : Text) → (tag ≡ count_tag → ⊥) → value_from [] tag k t ≡ none
unfolding value_from
no_other tag k t n = rw (ne_eqb tag count_tag n)

-- where the reading of a slip stands: the fields before k are read and end at `at`, and the rest decides
pub record ReadTo (s : Text) (base tag : ℕ) (found : std.Option Span) (at k : ℕ) : Type 0 where
  pub low : 1 ≤ k
  pub high : k ≤ count_tag
  pub near : at + longest_field ≤ longest_field * k
  pub good : is_slip_from (fields_from (count_tag - k) k) (drop at s) ≡ is_slip s
  pub seen : Seen tag k (value_from expected tag base s) (value_from (fields_from (count_tag - k) k) tag (base + at) (drop at s)) found

pub read_none : (s : Text) (base tag : ℕ) → ReadTo s base tag None 0 1
unfolding fields_from
read_none s base tag =
    record { low = omega arith; high = omega arith; near = omega arith; good = refl; seen = not_yet (rw (add-zero base)) }

module _ (s : Text) (base tag : ℕ) (found : std.Option Span) (at k : ℕ) (c : ReadTo s base tag found at k) where
  module _ (more : k < count_tag) where
    next : fields_from (count_tag - k) k ≡ expected_of k ∷ fields_from (count_tag - (k + 1)) (k + 1)
    unfolding fields_from
    next = let e : count_tag - k ≡ suc (count_tag - (k + 1)) = omega arith in rw e

    -- no field ends there: the refusal that comes of it
    pub read-bad : (o : std.Option ℕ) (r : Refusal) → ReadsTag s at k o → ◌≡◌ {A = Result ℕ Refusal} (Err r) (ok_or o BadSlip) → refused r ≡ read_in s base tag
    unfolding first is_slip_from
    read-bad None r b e =
        let h : is_slip s ≡ false = sym c.good ∙ rw (next, b) in
        let z : r ≡ BadSlip = cc in
        rw (z, h)
    read-bad (Some n) r b e = absurd (cc)

    module _ (e : ℕ) (reads : ReadsTag s at k (Some e)) where
      good-on : is_slip_from (fields_from (count_tag - (k + 1)) (k + 1)) (drop e s) ≡ is_slip s
      unfolding is_slip_from
      good-on = rw (next, reads.0, drop-drop (taken (expected_of k) (drop at s)) at s, ← reads.1.0) at c.good

      pub read_here : eqb tag k && ltb at e ≡ true → ReadTo s base tag (Some (record { start = base + at + head_size; end = base + e })) e (k + 1)
      read_here w =
          record {
            low = omega (arith, c);
            high = omega (arith, c);
            near = omega (arith, c, reads);
            good = good-on;
            seen =
                seen_here tag k (record { start = base + at + head_size; end = base + e }) _ _ _ found (eqb-true tag k (both (eqb tag k) (ltb at e) w).0)
                (rw next (value-here k (most_of k) (eqb k placer_tag) (fields_from (count_tag - (k + 1)) (k + 1)) tag base at e s reads.1.0 w)) c.seen;
          }

      pub read_past : eqb tag k && ltb at e ≡ false → ReadTo s base tag found e (k + 1)
      read_past w =
          record {
            low = omega (arith, c);
            high = omega (arith, c);
            near = omega (arith, c, reads);
            good = good-on;
            seen =
                seen_past tag k _ _ _ found
                (rw next (value_past k (most_of k) (eqb k placer_tag) (fields_from (count_tag - (k + 1)) (k + 1)) tag base at e s reads.1.0 w)) c.seen;
          }

  -- after the five: the count and the zeros decide whether it is a slip
  module _ (last : count_tag ≤ k) (b : Bool) (ends : b ≡ is_slip_from [] (drop at s)) where
    none_left : fields_from (count_tag - k) k ≡ []
    unfolding fields_from
    none_left = let e : count_tag - k ≡ 0 = omega arith in rw e

    is-slip : is_slip s ≡ b
    is-slip = sym (rw (none_left, ← ends) at c.good)

    pub read_no_slip : not b ≡ true → refused BadSlip ≡ read_in s base tag
    unfolding first
    read_no_slip w = rw (is-slip, not-true b w)

    module _ (slip : not b ≡ false) where
      told : answered (value_from expected tag base s) ≡ read_in s base tag
      told = slip_answers s base tag (is-slip ∙ not-false b slip)

      counted : tag ≡ count_tag → value_from expected tag base s ≡ some (part (base + at + head_size) (base + (at + count_size)))
      counted e = seen-count tag k _ _ found (omega (arith, c)) c.seen ∙ rw none_left (count-there tag base at (drop at s) e)

      pub read_count : tag ≡ count_tag → given (part (base + at + head_size) (base + (at + count_size))) ≡ read_in s base tag
      unfolding first
      read_count e = ap answered (sym (counted e)) ∙ told

      pub read_found : (tag ≡ count_tag → ⊥) → value_of (ok_or found NoTag) ≡ read_in s base tag
      read_found n = seen_last tag k _ _ found (rw none_left (no_other tag (base + at) (drop at s) n)) c.seen ∙ told

-- the slot in the book
module _ (book : Text) (k tag : ℕ) where
  pub read_no_slot : no_slot book k ≡ true → refused NoSlot ≡ read_slip book k tag
  unfolding read_slip first
  read_no_slot n = rw n

  pub read-slot : no_slot book k ≡ false → (base : ℕ) → base ≡ slot_start k → (a : Answer Part)
      → a ≡ read_in (within base (base + slot_size) book) base tag → a ≡ read_slip book k tag
  unfolding read_slip first
  read-slot has base b a e =
      let size : base + slot_size - base ≡ slot_size = omega arith in
      rw has (rw (size, b) at e)
