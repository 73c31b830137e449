-- What reading a field keeps: its answer, told from the repetition where the reader stands.
use mathlib.Core.Path.{◌≡◌, refl, sym, ap, ◌∙◌}
use Prim.Native.Nat.{ℕ, suc, ◌+◌, ◌-◌, ◌≤◌, ◌<◌}
use native.Mathlib.Numerals.{add-one}
use native.Mathlib.Omega.{arith}
use mathlib.Core.Bool.{Bool, true, false, ◌||◌}
use mathlib.Core.List.{List, [], ◌∷◌, flat_map}
use lib.ListN.{length, drop, length-drop}
use lib.Seq.{take_all}
use lib.Dec.{eqb}
use borrow.Author.Tests.{lt-ltb, le-ltb}
use Rattle.text.specs.Bytes.{Text, some, within}
use Rattle.text.specs.declared.marks.Marks.{Marks}
use Rattle.text.proofs.Tests.{not-true}
use Rattle.text.proofs.Lists.{or_assoc, or-false}
use Rattle.parts.specs.Split.{split}
use Rattle.parts.specs.Start.{reach}
use Rattle.parts.proofs.Reach.{split-end}
use Rattle.parts.proofs.Join as join
use Rattle.profile.specs.Table.{Leaf}
use Rattle.leaves.specs.declared.repetition.ReadRepetition.{ReadRepetition}
use Rattle.fields.specs.declared.field.ReadField.{ReadField}
use Rattle.checks.specs.Place.{Place, place}
use Rattle.checks.specs.View.{Entry, Repetition, is_filled}
use Rattle.checks.specs.Repetition.{entries_of, filled_from}
use Rattle.checks.specs.Fault.{starts_filled, Verdict, accepted, fault, repetition_checks, first_broken}
use Rattle.std.specs.Prelude.{not, Option, None, Some}
use Rattle.std.specs.Option.{is_some, MatchOption, IsSomeAnd}
use Rattle.leaves.specs.declared.repetition.BrokenLeaf.{BrokenLeaf}
use Rattle.fields.specs.declared.field.BrokenInField.{BrokenInField}
use Rattle.leaves.specs.Judged.{told_in, ReadsRepetition}
use Rattle.checks.specs.Repetition.{repetitions_in}
use Rattle.fields.specs.Judged.{filled_in, told_in_field, ReadsField}
use Rattle.checks.proofs.Filled.{late-none}
use Rattle.leaves.proofs.Breaks.{or_else, broken-append}

-- the first broken check of these repetitions
abbrev pub broken_in : Marks → Text → ℕ → ℕ → List Repetition → Verdict
broken_in q n o f rs = first_broken (flat_map (repetition_checks q n o f) rs)

-- what a reader found so far
abbrev pub found_in : Text → ℕ → ℕ → ReadField → Verdict
found_in n o f r = told_in_field (place n o f) r.broken

-- the reader stands at that repetition: those left to read are that one and the ones after it
pub record Repeats (q : Marks) (ls : List Leaf) (x : Text) (number : ℕ) (left : List Text) (r : ReadField) : Type 0 where
  pub numbered : 1 ≤ number
  pub surplus : r.surplus ≡ false
  pub counted : length (repetitions_in q x) + 1 ≡ number + length left
  pub filled : starts_filled (filled_in q ls x) ≡ r.filled || starts_filled (filled_from number (entries_of q ls) left)
  pub late : (r.broken ≡ None → ⊥) → 1 < number
  pub first : (n : Text) (o f : ℕ) → broken_in q n o f (filled_in q ls x)
      ≡ or_else (found_in n o f r) (broken_in q n o f (filled_from number (entries_of q ls) left))

-- a fault found stays, whatever follows
found-stays : (at : ℕ → ℕ → ℕ → Place) (b : Option BrokenInField) (v w : Verdict) → (b ≡ None → ⊥) → or_else (told_in_field at b) v ≡ or_else (told_in_field at b) w
found-stays at None v w h = absurd (h refl)
found-stays at (Some b) v w h = refl

-- the leaf that is broken in that repetition
abbrev pub in_repetition : ℕ → Option BrokenLeaf → Option BrokenInField
in_repetition k None = None
in_repetition k (Some leaf) = Some (record { repetition = k; leaf = leaf })

told_there : (at : ℕ → ℕ → ℕ → Place) (k : ℕ) (b : Option BrokenLeaf) → told_in_field at (in_repetition k b) ≡ told_in (at k) b
told_there at k None = refl
told_there at k (Some leaf) = refl

-- a closure gives it
pub made_there : (b : Option BrokenLeaf) (m : Option BrokenInField) (k : ℕ) (Gives : BrokenLeaf → BrokenInField → Type 0)
    → ((x : BrokenLeaf) (y : BrokenInField) → Gives x y → y ≡ record { repetition = k; leaf = x })
    → MatchOption b (m ≡ None) (λ x. IsSomeAnd m (Gives x)) → m ≡ in_repetition k b
made_there None m k Gives f h = h
made_there (Some x) None k Gives f h = absurd h
made_there (Some x) (Some y) k Gives f h = ap (λ (z : BrokenInField). Some z) (f x y h)

-- what the test for one says
module _ (b : Option BrokenInField) (r : Bool) (said : is_some b ≡ not r) where
  pub none_yet : r ≡ true → b ≡ None
  none_yet e = elim b as (λ o. is_some o ≡ not r → o ≡ None) [ None ↦ (λ h. refl) | Some leaf ↦ (λ h. cc (h, e)) ] said

  pub one_before : r ≡ false → b ≡ None → ⊥
  one_before e z = cc (said, e, z)

-- where nothing follows, what is found is all
found-alone : (v : Verdict) → or_else v accepted ≡ v
found-alone accepted = refl
found-alone (fault p n) = refl

some-length : (ps : List Text) → join.Some ps → 1 ≤ length ps
some-length [] s = absurd s
some-length (p ∷ ps) s = omega arith

split-length : (sep : ℕ) (t : Text) → 1 ≤ length (split sep t)
split-length sep t = some-length (split sep t) (join.split-some sep t)

-- where no separator is ahead, the piece up to the end is the only one
pub split-whole : (sep : ℕ) (x : Text) (from to : ℕ) → from ≤ length x → to ≡ from + reach sep (drop from x) → length x ≤ to
    → split sep (drop from x) ≡ within from to x ∷ []
split-whole sep x from to h e l =
    split-end sep x from to h e l ∙ ap (λ (p : Text). p ∷ []) (sym (take_all (to - from) (drop from x) (omega (arith, length-drop from x))))

-- a field of no bytes has no repetition
pub repeats-none : (q : Marks) (ls : List Leaf) (most : ℕ) (x : Text) → length x ≡ 0
    → ReadsField q ls most x (record { surplus = false; filled = false; broken = None })
unfolding filled_from first_broken flat_map some
repeats-none q ls most [] e = record { surplus = sym (le-ltb most 0 (omega arith)); filled = refl; first = λ s n o f. refl }
repeats-none q ls most (b ∷ x) e = absurd (omega arith)

pub repeats-first : (q : Marks) (ls : List Leaf) (x : Text) → (length x ≡ 0 → ⊥)
    → Repeats q ls x 1 (split q.repetition (drop 0 x)) (record { surplus = false; filled = false; broken = None })
repeats-first q ls [] h = absurd (h refl)
repeats-first q ls (b ∷ x) h =
    record {
      numbered = omega arith;
      surplus = refl;
      counted = omega arith;
      filled = refl;
      late = λ n. absurd (n refl);
      first = λ n o f. refl;
    }

module _ (q : Marks) (ls : List Leaf) (x : Text) (number : ℕ) where
  abbrev read : Text → List Entry
  read = entries_of q ls

  module _ (p : Text) (left : List Text) (r : ReadField) (w : Repeats q ls x number (p ∷ left) r) where
    -- a check is broken already: nothing changes
    pub repeats-kept : (r.broken ≡ None → ⊥) → Repeats q ls x (number + 1) left r
    unfolding filled_from
    repeats-kept h =
        rw (add-one number)
        (record {
          numbered = omega arith;
          surplus = w.surplus;
          counted = omega (arith, w.counted);
          filled =
              w.filled
              ∙ ap (λ (b : Bool). r.filled || b)
              (late-none number read (p ∷ left) (w.late h) ∙ sym (late-none (suc number) read left (omega (arith, w.late h))));
          late = λ n. omega (arith, w.numbered);
          first = λ n o f. w.first n o f ∙ found-stays (place n o f) r.broken _ _ h;
        })

    -- nothing is broken yet
    module _ (e : r.broken ≡ None) (one : ReadRepetition) (reads : ReadsRepetition q ls p one) where
      -- a repetition that is not filled is passed over
      pub repeats_blank : one.filled ≡ false → Repeats q ls x (number + 1) left r
      unfolding filled_from
      repeats_blank h =
          let g : is_filled (read p) ≡ false = sym reads.filled ∙ h in
          rw (add-one number)
          (record {
            numbered = omega arith;
            surplus = w.surplus;
            counted = omega (arith, w.counted);
            filled = rw g at w.filled;
            late = λ n. omega (arith, w.numbered);
            first = λ n o f. rw g at (w.first n o f);
          })

      -- a filled one is the first, or not, and tells its first broken check
      pub repeats-read : one.filled ≡ true
          → Repeats q ls x (number + 1) left (record { surplus = r.surplus; filled = r.filled || eqb number 1; broken = in_repetition number one.broken })
      unfolding filled_from flat_map some
      repeats-read h =
          let g : is_filled (read p) ≡ true = sym reads.filled ∙ h in
          rw (add-one number)
          (record {
            numbered = omega arith;
            surplus = w.surplus;
            counted = omega (arith, w.counted);
            filled = (rw g at w.filled) ∙ sym (or_assoc r.filled (eqb number 1) (starts_filled (filled_from (suc number) read left)));
            late = λ n. omega (arith, w.numbered);
            first =
                λ n o f. (rw (g, e) at (w.first n o f))
                ∙ broken-append (repetition_checks q n o f (record { number = number; entries = read p })) (flat_map (repetition_checks q n o f) (filled_from (suc number) read left))
                ∙ ap (λ (v : Verdict). or_else v (broken_in q n o f (filled_from (suc number) read left))) (sym (told_there (place n o f) number one.broken ∙ reads.first n o f number));
          })

  -- none is left
  pub repeats-last : (most : ℕ) (r : ReadField) → number ≤ most → Repeats q ls x (number + 1) [] r → ReadsField q ls most x r
  unfolding filled_from flat_map some first_broken
  repeats-last most r h w =
      record {
        surplus = w.surplus ∙ sym (le-ltb most (length (repetitions_in q x)) (omega (arith, w.counted)));
        filled = sym (w.filled ∙ or-false r.filled);
        first = λ s n o f. sym (w.first n o f ∙ found-alone (found_in n o f r));
      }

  -- one is left that is not the first, and there may be no more
  pub repeats_over : (most : ℕ) (t : Text) (r : ReadField) → 1 ≤ most → most < number → Repeats q ls x number (split q.repetition t) r
      → ReadsField q ls most x (record { surplus = true; filled = r.filled; broken = r.broken })
  repeats_over most t r h m w =
      record {
        surplus = sym (lt-ltb most (length (repetitions_in q x)) (omega (arith, w.counted, split-length q.repetition t)));
        filled = sym (w.filled ∙ ap (λ (b : Bool). r.filled || b) (late-none number read (split q.repetition t) (omega arith)) ∙ or-false r.filled);
        first = λ s. not-true (sym s);
      }
