-- A leaf by its bytes: the same wherever its segment starts.
use mathlib.Core.Path.{◌≡◌, refl, sym, ap, ◌∙◌}
use Prim.Native.Nat.{ℕ, suc, ◌≤◌}
use native.Mathlib.Omega.{arith}
use mathlib.Core.Bool.{Bool, true, false, ◌&&◌}
use mathlib.Core.List.{[], ◌∷◌}
use lib.ListN.{length, get_or-eq_default}
use lib.Dec.{eqb}
use borrow.Author.Tests.{ne_eqb}
use Rattle.text.specs.Bytes.{Text, pick, empty}
use Rattle.text.specs.declared.marks.Marks.{Marks}
use Rattle.parts.specs.Split.{split, Located, whole, nothing}
use Rattle.parts.specs.Descent.{in_field, in_repetition}
use Rattle.parts.specs.Span.{part_text}
use Rattle.parts.proofs.Descent.{part-text, part-nil}
use Rattle.frame.specs.Segments.{field_of, field, unsplit}
use Rattle.frame.proofs.Segments.{field-text}
use Rattle.checks.specs.Place.{one_leaf, split_field, apart, leaf_of, leaf_at, repetitions}

-- A LEAF OF A FIELD by its bytes: one leaf, or reached by the descent
abbrev pub leaf_text : Bool → Marks → Text → ℕ → ℕ → ℕ → Text
leaf_text w q x r c b = pick w (pick (eqb r 1 && eqb c 1 && eqb b 1) x []) (part_text (in_field q r c b) x)

one-text : (h : Bool) (t : Located) → (pick h t nothing).text ≡ pick h t.text []
one-text true t = refl
one-text false t = refl

apart-text : (w : Bool) (q : Marks) (t : Located) (r c b : ℕ) → ((pick w (one_leaf t) (split_field q t)).leaf r c b).text ≡ leaf_text w q t.text r c b
apart-text true q t r c b = one-text (eqb r 1 && eqb c 1 && eqb b 1) t
apart-text false q t r c b = part-text (in_field q r c b) t

pub leaf-is : (q : Marks) (s : Text) (f r c b : ℕ) → leaf_at q s f r c b ≡ leaf_text (unsplit s f) q (field q s f) r c b
unfolding leaf_at apart
leaf-is q s f r c b = apart-text (unsplit s f) q (field_of q (whole s) f) r c b

-- where the segment starts does not alter the leaf's bytes
pub leaf-text : (q : Marks) (s : Located) (f r c b : ℕ) → (leaf_of q s f r c b).text ≡ leaf_at q s.text f r c b
unfolding apart
leaf-text q s f r c b =
    apart-text (unsplit s.text f) q (field_of q s f) r c b
    ∙ ap (λ (x : Text). leaf_text (unsplit s.text f) q x r c b) (field-text q s f)
    ∙ sym (leaf-is q s.text f r c b)

-- of a field that is split
pub leaf-split : (q : Marks) (s : Text) (f r c b : ℕ) → unsplit s f ≡ false → leaf_at q s f r c b ≡ part_text (in_field q r c b) (field q s f)
leaf-split q s f r c b cut = rw (leaf-is q s f r c b, cut)

-- and of one that is not
pub leaf-one : (q : Marks) (s : Text) (f r c b : ℕ) → unsplit s f ≡ true → leaf_at q s f r c b ≡ pick (eqb r 1 && eqb c 1 && eqb b 1) (field q s f) []
leaf-one q s f r c b cut = rw (leaf-is q s f r c b, cut)

-- HOW MANY REPETITIONS a field has, and that nothing stands beyond them
count-step : (w : Bool) (q : Marks) (t : Located) → (pick w (one_leaf t) (split_field q t)).repetitions ≡ pick (empty t.text) 0 (pick w 1 (length (split q.repetition t.text)))
count-step true q t = refl
count-step false q t = refl

pub count-is : (q : Marks) (s : Text) (f : ℕ) → repetitions q s f ≡ pick (empty (field q s f)) 0 (pick (unsplit s f) 1 (length (split q.repetition (field q s f))))
unfolding repetitions apart
count-is q s f = count-step (unsplit s f) q (field_of q (whole s) f)

none : (h : Bool) → pick {A = Text} h [] [] ≡ []
none true = refl
none false = refl

pub nil-leaf : (w : Bool) (q : Marks) (r c b : ℕ) → leaf_text w q [] r c b ≡ []
nil-leaf true q r c b = none (eqb r 1 && eqb c 1 && eqb b 1)
nil-leaf false q r c b = part-nil (in_field q r c b)

beyond-step : (w : Bool) (q : Marks) (x : Text) (i c b : ℕ) → pick w 1 (length (split q.repetition x)) ≤ i → leaf_text w q x (suc i) c b ≡ []
unfolding part_text
beyond-step true q x i c b l = rw (ne_eqb (suc i) 1 (λ e. omega (arith, e)))
beyond-step false q x i c b l = rw (get_or-eq_default (split q.repetition x) [] {n = i} l) (unfold part_text in part-nil (in_repetition q c b))

beyond-text : (w : Bool) (q : Marks) (x : Text) (i c b : ℕ) → pick (empty x) 0 (pick w 1 (length (split q.repetition x))) ≤ i → leaf_text w q x (suc i) c b ≡ []
beyond-text w q [] i c b l = nil-leaf w q (suc i) c b
beyond-text w q (y ∷ x) i c b l = beyond-step w q (y ∷ x) i c b l

pub leaf-beyond : (q : Marks) (s : Text) (f i c b : ℕ) → repetitions q s f ≤ i → leaf_at q s f (suc i) c b ≡ []
leaf-beyond q s f i c b l = leaf-is q s f (suc i) c b ∙ beyond-text (unsplit s f) q (field q s f) i c b (rw (count-is q s f) at l)

nought_step : (w : Bool) (q : Marks) (x : Text) (c b : ℕ) → leaf_text w q x 0 c b ≡ []
nought_step true q x c b = refl
nought_step false q x c b = unfold part_text in part-nil (in_repetition q c b)

pub leaf_nought : (q : Marks) (s : Text) (f c b : ℕ) → leaf_at q s f 0 c b ≡ []
leaf_nought q s f c b = leaf-is q s f 0 c b ∙ nought_step (unsplit s f) q (field q s f) c b
