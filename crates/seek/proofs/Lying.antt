-- How the leaf of a segment is found.
use mathlib.Core.Path.{◌≡◌, refl, sym, ap, ◌∙◌}
use Prim.Native.Nat.{ℕ, zero, suc, ◌+◌, ◌-◌, ◌≤◌, ◌<◌, min}
use native.Mathlib.Nat.{zero-sub, sub-zero, suc-sub-suc}
use native.Mathlib.Omega.{arith}
use mathlib.Core.Bool.{true, false, not, ◌&&◌}
use mathlib.Core.List.{[], ◌∷◌}
use lib.ListN.{length, take, drop, length-take, length-drop, drop_of_length-le}
use lib.Seq.{drop-drop, take-nil}
use lib.Dec.{eqb, leb}
use borrow.Author.Tests as tests
use borrow.Author.Tests.{lt-leb, le-leb}
use Rattle.text.specs.Bytes.{Text, pick, within}
use Rattle.text.specs.declared.marks.Marks.{Marks}
use Rattle.text.specs.declared.span.Span.{Span}
use Rattle.parts.specs.declared.Numbers.{Numbers}
use Rattle.parts.specs.Split.{split, piece}
use Rattle.parts.specs.Start.{start}
use Rattle.parts.specs.Descent.{in_field}
use Rattle.parts.specs.Span.{part_text, part_start}
use Rattle.parts.specs.Span.{span, steps_from}
use Rattle.parts.proofs.Descent.{within-length, reached, part-nil}
use Rattle.frame.specs.Segments.{is_header, field, unsplit}
use Rattle.frame.specs.Starts.{field_start}
use Rattle.frame.proofs.Segments.{field-header, field-other}
use Rattle.checks.specs.Starts.{leaf_start}
use Rattle.checks.proofs.Leaf.{leaf-split, leaf-one}
use Rattle.checks.specs.Shown.{Found, Empty, shown}
use Rattle.seek.specs.Inner.{leaf_found, leaf_behind}

-- no bytes are shown as Empty
shown-none : (k : ℕ) (t : Text) → length t ≡ 0 → Empty ≡ shown k t
shown-none k [] e = refl
shown-none k (b ∷ t) e = absurd (omega arith)

-- bytes a up to b of a segment of so many bytes: they begin there, unless there are none
pub shown-clipped : (k a b l : ℕ) (t : Text) → a < b → length t ≡ min b l - a → shown (k + min a l) t ≡ shown (k + a) t
shown-clipped k a b l [] h e = refl
shown-clipped k a b l (x ∷ t) h e =
    let i : min a l ≡ a = omega arith in
    rw i

pub clipped : (k a b l : ℕ) (t : Text) → a < b → length t ≡ min b l - a → k + min b l ≡ k + min a l + length t
clipped k a b l t h e = omega arith

-- the fields after some bytes of a segment
drop-take : (k n : ℕ) (l : Text) → drop k (take n l) ≡ take (n - k) (drop k l)
drop-take zero n l = rw sub-zero
drop-take (suc k) zero l = rw zero-sub
drop-take (suc k) (suc n) [] = rw (take-nil (suc n - suc k))
drop-take (suc k) (suc n) (b ∷ l) = rw suc-sub-suc (drop-take k n l)

pub within-behind : (m : Text) (start end k : ℕ) → within (start + k) end m ≡ drop k (within start end m)
within-behind m start end k =
    let e : end - (start + k) ≡ end - start - k = omega arith in
    rw (e, ← drop-drop k start m) (sym (drop-take k (end - start) (drop start m)))

module _ (m : Text) (start end skip : ℕ) (l : start ≤ end) (h : end ≤ length m) (q : Marks) (n : Numbers) where
  pub behind-short : end - start < skip → Empty ≡ leaf_behind q n start skip (within start end m)
  behind-short e =
      let z : drop skip (within start end m) ≡ [] = drop_of_length-le (within start end m) {i = skip} (omega (arith, within-length m start end l h)) in
      shown-none (start + (skip + part_start (steps_from q n 4) (drop skip (within start end m)))) (part_text (steps_from q n 4) (drop skip (within start end m)))
      (rw z (ap length (part-nil (steps_from q n 4))))

  -- what the descent from there reaches
  pub behind-reached : (r : Span) → r ≡ reached q n 4 (start + skip) end m
      → r ≡ span (start + (skip + part_start (steps_from q n 4) (drop skip (within start end m)))) (part_text (steps_from q n 4) (drop skip (within start end m)))
  behind-reached r g =
      let t = drop skip (within start end m) in
      let e : start + skip + part_start (steps_from q n 4) t ≡ start + (skip + part_start (steps_from q n 4) t) = omega arith in
      (rw (within-behind m start end skip) at g) ∙ ap (λ (k : ℕ). span k (part_text (steps_from q n 4) t)) e

-- the leaf of a field that is split, and that is one leaf
module _ (q : Marks) (s : Text) (f r c b k : ℕ) where
  split-found : unsplit s f ≡ false
      → leaf_found q (record { field = f; repetition = r; component = c; subcomponent = b }) k s
      ≡ shown (k + (field_start q s f + part_start (in_field q r c b) (field q s f))) (part_text (in_field q r c b) (field q s f))
  unfolding leaf_start
  split-found cut = rw (leaf-split q s f r c b cut, cut)

  one_found : unsplit s f ≡ true
      → leaf_found q (record { field = f; repetition = r; component = c; subcomponent = b }) k s
      ≡ shown (k + (field_start q s f + 0)) (pick (eqb r 1 && eqb c 1 && eqb b 1) (field q s f) [])
  unfolding leaf_start
  one_found cut = rw (leaf-one q s f r c b cut, cut)

-- THE LEAF of a segment that is no header
module _ (q : Marks) (n : Numbers) (k : ℕ) (s : Text) where
  pub leaf_fields : (a : Found) → is_header s ≡ false → a ≡ leaf_behind q n k 4 s → a ≡ leaf_found q n k s
  unfolding field_start part_text part_start steps_from
  leaf_fields f e g =
      let t = drop 4 s in
      let a = start q.field n.field t in
      let p = part_start (in_field q n.repetition n.component n.subcomponent) (piece n.field (split q.field t)) in
      let z : 4 + (a + p) ≡ 4 + a + p = omega arith in
      g ∙ sym (split-found q s n.field n.repetition n.component n.subcomponent k (rw e) ∙ rw (field-other q s n.field e, e, z))

-- that of a header, from MSH-3 on: the fields stand after nine bytes, and two numbers are taken
third : (q : Marks) (f r c b k : ℕ) (s : Text) → is_header s ≡ true → 3 ≤ f
    → leaf_behind q (record { field = f - 2; repetition = r; component = c; subcomponent = b }) k 9 s
    ≡ leaf_found q (record { field = f; repetition = r; component = c; subcomponent = b }) k s
unfolding field_start part_text part_start steps_from
third q zero r c b k s e l = absurd (omega arith)
third q (suc zero) r c b k s e l = absurd (omega arith)
third q (suc (suc zero)) r c b k s e l = absurd (omega arith)
third q (suc (suc (suc i))) r c b k s e l =
    let t = drop 9 s in
    let f = suc (suc (suc i)) in
    let a = start q.field (suc i) t in
    let p = part_start (in_field q r c b) (piece (suc i) (split q.field t)) in
    let z : 9 + (a + p) ≡ 9 + a + p = omega arith in
    let x : f - 2 ≡ suc i = omega arith in
    let cut : unsplit s f ≡ false = rw (e, lt-leb f 2 (omega arith)) in
    rw x (sym (split-found q s f r c b k cut ∙ rw (field-header q s f e, e, z)))

pub header-third : (q : Marks) (n : Numbers) (k : ℕ) (s : Text) (a : Found) → is_header s ≡ true → 3 ≤ n.field
    → a ≡ leaf_behind q (record { field = n.field - 2; repetition = n.repetition; component = n.component; subcomponent = n.subcomponent }) k 9 s
    → a ≡ leaf_found q n k s
header-third q n k s a e l g = g ∙ (third q n.field n.repetition n.component n.subcomponent k s e l)

-- MSH-1 and MSH-2: unsplit, and Empty beyond the first leaf
module _ (q : Marks) (r c b k : ℕ) (s : Text) (e : is_header s ≡ true) where
  abbrev numbered : ℕ → Numbers
  numbered f = record { field = f; repetition = r; component = c; subcomponent = b }

  whole-none : (f : ℕ) → leb f 2 ≡ true → eqb r 1 && eqb c 1 && eqb b 1 ≡ false → Empty ≡ leaf_found q (numbered f) k s
  whole-none f l o = sym (one_found q s f r c b k (rw (e, l)) ∙ rw o)

  one-leaf : (f : ℕ) → leb f 2 ≡ true → eqb r 1 && eqb c 1 && eqb b 1 ≡ true
      → shown (k + field_start q s f) (field q s f) ≡ leaf_found q (numbered f) k s
  one-leaf f l o =
      let z : field_start q s f + 0 ≡ field_start q s f = omega arith in
      sym (one_found q s f r c b k (rw (e, l)) ∙ rw (o, z))

  pub header-none : (f : ℕ) → f < 3 → not (eqb r 1 && eqb c 1 && eqb b 1) ≡ true → Empty ≡ leaf_found q (numbered f) k s
  header-none f l o = whole-none f (le-leb f 2 (omega arith)) (tests.not-true (eqb r 1 && eqb c 1 && eqb b 1) o)

  pub header-first : (f : ℕ) → f ≡ 1 → not (eqb r 1 && eqb c 1 && eqb b 1) ≡ false
      → shown (k + 3) (drop 3 (take 4 s)) ≡ leaf_found q (numbered f) k s
  unfolding field_start
  header-first f l o = rw l (rw (e, field-header q s 1 e) at (one-leaf 1 refl (tests.not-false (eqb r 1 && eqb c 1 && eqb b 1) o)))

  pub header-second : (f : ℕ) → 1 ≤ f → f < 3 → (f ≡ 1 → ⊥) → not (eqb r 1 && eqb c 1 && eqb b 1) ≡ false
      → shown (k + 4) (drop 4 (take 8 s)) ≡ leaf_found q (numbered f) k s
  unfolding field_start
  header-second f h l d o =
      let two : f ≡ 2 = omega (arith, d) in
      rw two (rw (e, field-header q s 2 e) at (one-leaf 2 refl (tests.not-false (eqb r 1 && eqb c 1 && eqb b 1) o)))

pub clip_length : (m : Text) (start end : ℕ) → start ≤ end → end ≤ length m → (a b : ℕ)
    → length (drop a (take b (within start end m))) ≡ min b (end - start) - a
clip_length m start end l h a b =
    let s = within start end m in
    length-drop a (take b s) ∙ ap (λ (k : ℕ). k - a) (length-take b s ∙ ap (min b) (within-length m start end l h))
