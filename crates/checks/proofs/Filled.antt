-- Filled repetitions and their numbers.
use mathlib.Core.Path.{◌≡◌, refl, ◌∙◌}
use Prim.Native.Nat.{ℕ, zero, suc, ◌+◌, ◌<◌}
use native.Mathlib.Omega.{arith}
use mathlib.Core.Bool.{Bool, true, false}
use mathlib.Core.List.{List, [], ◌∷◌}
use lib.ListN.{length, get_or}
use borrow.Author.Tests.{ne_eqb}
use Rattle.text.specs.Bytes.{Text, pick, empty, some}
use Rattle.text.specs.declared.marks.Marks.{Marks}
use Rattle.parts.specs.Split.{split}
use Rattle.parts.specs.Descent.{in_repetition}
use Rattle.parts.specs.Span.{part_text}
use Rattle.parts.proofs.Descent.{part-nil}
use Rattle.frame.specs.Segments.{field, unsplit}
use Rattle.profile.specs.Table.{Leaf}
use Rattle.checks.specs.Place.{leaf_at, repetitions}
use Rattle.checks.specs.View.{Entry, Repetition, entries_at, is_filled, filled_up_to}
use Rattle.checks.specs.Repetition.{leaf_in, entries_of, filled_from, repetitions_in}
use Rattle.checks.specs.Fault.{starts_filled}
use Rattle.checks.proofs.Leaf.{leaf-split, count-is}

-- a repetition that is not the first does not fill the first
late-step : (b : Bool) (k : ℕ) (es : List Entry) (rs : List Repetition) → 1 < k → starts_filled rs ≡ false
    → starts_filled (pick b (record { number = k; entries = es } ∷ rs) rs) ≡ false
unfolding some
late-step true k es rs h e = rw (ne_eqb k 1 (omega arith)) e
late-step false k es rs h e = e

pub late-none : (k : ℕ) (read : Text → List Entry) (ts : List Text) → 1 < k → starts_filled (filled_from k read ts) ≡ false
unfolding filled_from some
late-none k read [] h = refl
late-none k read (t ∷ ts) h =
    late-step (is_filled (read t)) k (read t) (filled_from (suc k) read ts) h (late-none (suc k) read ts (omega arith))

-- no leaf stands in no bytes, and none after the last component
pub no_leaf : (q : Marks) (c b : ℕ) → leaf_in q [] c b ≡ []
no_leaf q c b = part-nil (in_repetition q c b)

pub none_filled : (q : Marks) (ls : List Leaf) → is_filled (entries_of q ls []) ≡ false
unfolding some
none_filled q [] = refl
none_filled q (l ∷ ls) = rw (no_leaf q l.component l.subcomponent) (none_filled q ls)

pub late-numbers : (k n : ℕ) (read : ℕ → List Entry) → 1 < k → starts_filled (filled_up_to read k n) ≡ false
unfolding filled_up_to some
late-numbers k zero read h = refl
late-numbers k (suc n) read h =
    late-step (is_filled (read k)) k (read k) (filled_up_to read (suc k) n) h (late-numbers (suc k) n read (omega arith))

-- repetitions read by their numbers, and by their bytes
by_number : (k : ℕ) (numbered : ℕ → List Entry) (read : Text → List Entry) (ts : List Text)
    → ((i : ℕ) → i < length ts → numbered (suc (k + i)) ≡ read (get_or ts i [])) → filled_up_to numbered (suc k) (length ts) ≡ filled_from (suc k) read ts
unfolding filled_up_to filled_from
by_number k numbered read [] h = refl
by_number k numbered read (t ∷ ts) h =
    let z : k + 0 ≡ k = omega arith in
    let here : numbered (suc k) ≡ read t = rw z at (h 0 (omega arith)) in
    rw (here, by_number (suc k) numbered read ts (λ i l. let e : suc (k + suc i) ≡ suc (suc k + i) = omega arith in rw e at (h (suc i) (omega arith))))

or-none : (b : Bool) (numbered : ℕ → List Entry) (read : Text → List Entry) (ts : List Text)
    → filled_up_to numbered 1 (length ts) ≡ filled_from 1 read ts → filled_up_to numbered 1 (pick b 0 (length ts)) ≡ filled_from 1 read (pick b [] ts)
unfolding filled_up_to filled_from
or-none true numbered read ts h = refl
or-none false numbered read ts h = h

none-step : (b : Bool) (ts : List Text) → pick b 0 (length ts) ≡ length (pick b [] ts)
none-step true ts = refl
none-step false ts = refl

-- A FIELD THAT IS SPLIT: its repetitions, and their leaves, are told from its bytes
module _ (q : Marks) (s : Text) (f : ℕ) (cut : unsplit s f ≡ false) where
  pub split-leaf : (i c b : ℕ) → leaf_at q s f (suc i) c b ≡ leaf_in q (get_or (split q.repetition (field q s f)) i []) c b
  unfolding part_text
  split-leaf i c b = leaf-split q s f (suc i) c b cut

  split-entries : (ls : List Leaf) (i : ℕ) → entries_at q s f ls (suc i) ≡ entries_of q ls (get_or (split q.repetition (field q s f)) i [])
  split-entries [] i = refl
  split-entries (l ∷ ls) i = rw (split-leaf i l.component l.subcomponent, split-entries ls i)

  count-split : repetitions q s f ≡ pick (empty (field q s f)) 0 (length (split q.repetition (field q s f)))
  count-split = rw cut at (count-is q s f)

  pub split-count : repetitions q s f ≡ length (repetitions_in q (field q s f))
  split-count = count-split ∙ none-step (empty (field q s f)) (split q.repetition (field q s f))

  pub split-filled : (ls : List Leaf) → filled_up_to (entries_at q s f ls) 1 (repetitions q s f) ≡ filled_from 1 (entries_of q ls) (repetitions_in q (field q s f))
  split-filled ls =
      rw count-split
      (or-none (empty (field q s f)) (entries_at q s f ls) (entries_of q ls) (split q.repetition (field q s f))
      (by_number 0 (entries_at q s f ls) (entries_of q ls) (split q.repetition (field q s f))
      (λ i l. let z : 0 + i ≡ i = omega arith in rw z (split-entries ls i))))
