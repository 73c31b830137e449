-- The bytes of a message from a place's start on are the text at that place; and the start as the definition and as the code have it.
use mathlib.Core.Path.{◌≡◌, refl, sym, ap, ◌∙◌}
use Prim.Native.Nat.{ℕ, ◌+◌}
use native.Mathlib.Omega.{arith}
use mathlib.Core.Bool.{Bool, true, false, ◌&&◌}
use mathlib.Core.List.{[], ◌∷◌}
use lib.Seq.{take-length}
use lib.Dec.{eqb}
use Rattle.text.specs.Bytes.{Text, pick, empty}
use Rattle.text.proofs.Tests.{not-true}
use Rattle.text.specs.declared.marks.Marks.{Marks}
use Rattle.text.specs.Marks.{marks_of}
use Rattle.parts.specs.Split.{Located, nothing}
use Rattle.parts.specs.Descent.{in_field}
use Rattle.parts.specs.Span.{part_start}
use Rattle.parts.proofs.Split.{Stands, stands_in}
use Rattle.parts.proofs.Descent.{part-stands, part-start}
use Rattle.frame.specs.Segments.{occurrence, occurrence_of, field_of, field, unsplit}
use Rattle.frame.specs.Starts.{occurrence_start, field_start}
use Rattle.frame.proofs.Segments.{occurrence-stands, field-stands, field-text, field-start, field-nil}
use Rattle.frame.proofs.Occurrences.{occurrence-text, occurrence-start}
use Rattle.checks.specs.Place.{Place, one_leaf, split_field, apart, leaf_of, leaf_at, stands_at, text_at}
use Rattle.checks.proofs.Leaf.{leaf_text, leaf-is, leaf-text, nil-leaf}
use Rattle.checks.specs.Starts.{leaf_start, start_at}
use Rattle.checks.specs.Shown.{shown}
use Rattle.checks.specs.LookUp.{found}

-- THE LAW that ties a leaf's bytes to where it starts
one-stands : (h : Bool) (x : Text) → Stands x 0 (pick h x [])
one-stands true x = take-length x
one-stands false x = refl

inside-stands : (w : Bool) (q : Marks) (x : Text) (r c b : ℕ) → Stands x (pick w 0 (part_start (in_field q r c b) x)) (leaf_text w q x r c b)
inside-stands true q x r c b = one-stands (eqb r 1 && eqb c 1 && eqb b 1) x
inside-stands false q x r c b = part-stands (in_field q r c b) x

pub leaf-stands : (q : Marks) (s : Text) (f r c b : ℕ) → Stands s (leaf_start q s f r c b) (leaf_at q s f r c b)
unfolding leaf_start
leaf-stands q s f r c b =
    let t = field q s f in
    rw (leaf-is q s f r c b)
    (stands_in s (field_start q s f) t (pick (unsplit s f) 0 (part_start (in_field q r c b) t)) (leaf_text (unsplit s f) q t r c b)
    (field-stands q s f) (inside-stands (unsplit s f) q t r c b))

-- THE TEXT AT A PLACE, told from its segment's bytes: where the segment starts does not alter it
pub text-is : (m : Text) (p : Place) → text_at m p ≡ leaf_at (marks_of m) (occurrence m p.name p.occurrence) p.field p.repetition p.component p.subcomponent
unfolding text_at stands_at
text-is m p =
    leaf-text (marks_of m) (occurrence_of m p.name p.occurrence) p.field p.repetition p.component p.subcomponent
    ∙ ap (λ (s : Text). leaf_at (marks_of m) s p.field p.repetition p.component p.subcomponent) (occurrence-text m p.name p.occurrence)

-- THE LAW that ties a place's text to its start
pub text-stands : (m : Text) (p : Place) → Stands m (start_at m p) (text_at m p)
unfolding start_at
text-stands m p =
    let s = occurrence m p.name p.occurrence in
    let q = marks_of m in
    rw (text-is m p)
    (stands_in m (occurrence_start m p.name p.occurrence) s
    (leaf_start q s p.field p.repetition p.component p.subcomponent)
    (leaf_at q s p.field p.repetition p.component p.subcomponent)
    (occurrence-stands m p.name p.occurrence)
    (leaf-stands q s p.field p.repetition p.component p.subcomponent))

-- THE START of a leaf that has bytes, as the definition and as the code have it
one-start : (h : Bool) (t : Located) → empty (pick h t.text []) ≡ false → (pick h t nothing).start ≡ t.start + 0
one-start true t e = omega arith
one-start false t e = not-true (sym e)

apart-start : (w : Bool) (q : Marks) (t : Located) (r c b : ℕ) → empty (leaf_text w q t.text r c b) ≡ false
    → ((pick w (one_leaf t) (split_field q t)).leaf r c b).start ≡ t.start + pick w 0 (part_start (in_field q r c b) t.text)
apart-start true q t r c b e = one-start (eqb r 1 && eqb c 1 && eqb b 1) t e
apart-start false q t r c b e = part-start (in_field q r c b) t e

-- a leaf that has bytes is of a field that has some, and that of such a segment
field-there : (w : Bool) (q : Marks) (x : Text) (r c b : ℕ) → empty (leaf_text w q x r c b) ≡ false → empty x ≡ false
field-there w q [] r c b e = sym (ap empty (nil-leaf w q r c b)) ∙ e
field-there w q (y ∷ x) r c b e = refl

pub leaf-nil : (q : Marks) (f r c b : ℕ) → leaf_at q [] f r c b ≡ []
leaf-nil q f r c b =
    leaf-is q [] f r c b ∙ ap (λ (x : Text). leaf_text (unsplit [] f) q x r c b) (field-nil q f) ∙ nil-leaf (unsplit [] f) q r c b

segment-there : (q : Marks) (s : Text) (f r c b : ℕ) → empty (leaf_at q s f r c b) ≡ false → empty s ≡ false
segment-there q [] f r c b e = sym (ap empty (leaf-nil q f r c b)) ∙ e
segment-there q (y ∷ s) f r c b e = refl

leaf-start : (q : Marks) (s : Located) (f r c b : ℕ) → empty (leaf_at q s.text f r c b) ≡ false
    → (leaf_of q s f r c b).start ≡ s.start + leaf_start q s.text f r c b
unfolding apart leaf_start
leaf-start q s f r c b e =
    let x = field q s.text f in
    let w = unsplit s.text f in
    let h : empty (leaf_text w q x r c b) ≡ false = rw (← leaf-is q s.text f r c b) e in
    let g : empty (leaf_text w q (field_of q s f).text r c b) ≡ false = rw (field-text q s f) h in
    let a = apart-start w q (field_of q s f) r c b g in
    let k : pick w 0 (part_start (in_field q r c b) (field_of q s f).text) ≡ pick w 0 (part_start (in_field q r c b) x) =
    ap (λ (y : Text). pick w 0 (part_start (in_field q r c b) y)) (field-text q s f) in
    omega (arith, a, k, field-start q s f (field-there w q x r c b h))

-- WHAT IS FOUND at a place: told by the text there, and by its start as the code has it
pub stands-start : (m : Text) (p : Place) → empty (text_at m p) ≡ false → (stands_at m p).start ≡ start_at m p
unfolding stands_at start_at
stands-start m p e =
    let q = marks_of m in
    let s = occurrence m p.name p.occurrence in
    let x = occurrence_of m p.name p.occurrence in
    let t = occurrence-text m p.name p.occurrence in
    let h : empty (leaf_at q s p.field p.repetition p.component p.subcomponent) ≡ false = rw (← text-is m p) e in
    let a = leaf-start q x p.field p.repetition p.component p.subcomponent (rw t h) in
    let k : leaf_start q x.text p.field p.repetition p.component p.subcomponent ≡ leaf_start q s p.field p.repetition p.component p.subcomponent =
    ap (λ (y : Text). leaf_start q y p.field p.repetition p.component p.subcomponent) t in
    omega (arith, a, k, occurrence-start m p.name p.occurrence (segment-there q s p.field p.repetition p.component p.subcomponent h))

shown-step : (k j : ℕ) (t : Text) → (empty t ≡ false → k ≡ j) → shown k t ≡ shown j t
shown-step k j [] h = refl
shown-step k j (b ∷ t) h = rw (h refl)

pub found-is : (m : Text) (p : Place) → found m p ≡ shown (start_at m p) (text_at m p)
unfolding text_at
found-is m p = shown-step (stands_at m p).start (start_at m p) (stands_at m p).text (unfold text_at in stands-start m p)
