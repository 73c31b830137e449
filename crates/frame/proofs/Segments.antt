-- Where segments and fields stand.
use mathlib.Core.Path.{◌≡◌, refl, sym, ap, ◌∙◌}
use Prim.Native.Nat.{ℕ, zero, suc, ◌+◌}
use native.Mathlib.Omega.{arith}
use mathlib.Core.Bool.{Bool, true, false}
use mathlib.Core.List.{List, [], ◌∷◌, drop_last}
use lib.ListN.{get_or, take, drop}
use lib.Seq.{take-length}
use Rattle.text.specs.Bytes.{Text, pick, cr, empty, keep, same}
use Rattle.text.specs.declared.marks.Marks.{Marks}
use Rattle.parts.specs.Split.{split, piece, ended, Located, whole, inside}
use Rattle.parts.specs.Start.{start, before}
use Rattle.text.proofs.Tests.{not-true}
use Rattle.parts.proofs.Descent.{inside-start, piece-nil}
use Rattle.parts.proofs.Split.{Stands, piece-stands, stands, stands_in}
use Rattle.frame.specs.Segments.{segments, named, of_name, occurrence, is_header, header_size, opening_size, after, header_field_of, field_of, field}
use Rattle.frame.specs.Starts.{ahead, occurrence_start, header_field, header_field_start, field_start}

-- a piece that a separator ends stands where the piece stands
last-stands : (m : Text) (k : ℕ) (ps : List Text) (i : ℕ) → Stands m k (get_or ps i []) → Stands m k (get_or (drop_last ps) i [])
last-stands m k [] i h = refl
last-stands m k (p ∷ []) i h = refl
last-stands m k (p ∷ r ∷ ps) zero h = h
last-stands m k (p ∷ r ∷ ps) (suc i) h = last-stands m k (r ∷ ps) i h

pub segment-stands : (m : Text) (i : ℕ) → Stands m (before cr m i) (get_or (segments m) i [])
unfolding ended
segment-stands m i = last-stands m (before cr m i) (split cr m) i (piece-stands cr m i)

-- the segment of a name that has i of that name before it
ahead_step : (n s : Text) (ss : List Text) (b : Bool) → named n s ≡ b
    → ((i : ℕ) → get_or (of_name n ss) i [] ≡ get_or ss (ahead n ss i) [])
    → (i : ℕ) → get_or (pick b (s ∷ of_name n ss) (of_name n ss)) i [] ≡ get_or (s ∷ ss) (ahead n (s ∷ ss) i) []
unfolding ahead
ahead_step n s ss true e ih zero = rw e
ahead_step n s ss true e ih (suc i) = rw e (ih i)
ahead_step n s ss false e ih zero = rw e (ih 0)
ahead_step n s ss false e ih (suc i) = rw e (ih (suc i))

pub ahead-named : (n : Text) (ss : List Text) (i : ℕ) → get_or (of_name n ss) i [] ≡ get_or ss (ahead n ss i) []
unfolding keep
ahead-named n [] i = refl
ahead-named n (s ∷ ss) i = ahead_step n s ss (named n s) refl (ahead-named n ss) i

pub occurrence-stands : (m n : Text) (o : ℕ) → Stands m (occurrence_start m n o) (occurrence m n o)
occurrence-stands m n zero = refl
occurrence-stands m n (suc i) = rw (ahead-named n (segments m) i) (segment-stands m (ahead n (segments m) i))

-- what stands after j bytes and before k
head-stands : (k : ℕ) (s : Text) → Stands s 0 (take k s)
head-stands zero s = refl
head-stands (suc k) [] = refl
head-stands (suc k) (b ∷ s) = ap {B = Text} (λ r. b ∷ r) (head-stands k s)

between-stands : (j k : ℕ) (s : Text) → Stands s j (drop j (take k s))
between-stands zero k s = head-stands k s
between-stands (suc j) zero s = refl
between-stands (suc j) (suc k) [] = refl
between-stands (suc j) (suc k) (b ∷ s) = between-stands j k s

behind-stands : (j : ℕ) (s : Text) → Stands s j (drop j s)
behind-stands j s = take-length (drop j s)

cut-behind : (q : Marks) (j n : ℕ) (s : Text) → Stands s (j + start q.field n (drop j s)) (piece n (split q.field (drop j s)))
cut-behind q j n s =
    stands_in s j (drop j s) (start q.field n (drop j s)) (piece n (split q.field (drop j s)))
    (behind-stands j s) (stands q.field n (drop j s))

header-stands : (q : Marks) (s : Text) (f : ℕ) → Stands s (header_field_start q s f) (header_field q s f)
header-stands q s zero = refl
header-stands q s (suc zero) = between-stands 3 4 s
header-stands q s (suc (suc zero)) = between-stands 4 8 s
header-stands q s (suc (suc (suc i))) = cut-behind q 9 (suc i) s

-- A FIELD BY ITS BYTES, told by whether the segment is the header
text-step : (q : Marks) (s : Located) (f : ℕ) (b : Bool)
    → (pick b (header_field_of q s f) (inside q.field f (after opening_size s))).text
    ≡ pick b (header_field q s.text f) (piece f (split q.field (drop opening_size s.text)))
text-step q s zero true = refl
text-step q s (suc zero) true = refl
text-step q s (suc (suc zero)) true = refl
text-step q s (suc (suc (suc i))) true = refl
text-step q s f false = refl

pub field_is : (q : Marks) (s : Text) (f : ℕ) → field q s f ≡ pick (is_header s) (header_field q s f) (piece f (split q.field (drop opening_size s)))
unfolding field_of
field_is q s f = text-step q (whole s) f (is_header s)

pub field-header : (q : Marks) (s : Text) (f : ℕ) → is_header s ≡ true → field q s f ≡ header_field q s f
field-header q s f e = rw (field_is q s f, e)

pub field-other : (q : Marks) (s : Text) (f : ℕ) → is_header s ≡ false → field q s f ≡ piece f (split q.field (drop opening_size s))
field-other q s f e = rw (field_is q s f, e)

-- where it starts does not alter its bytes
pub field-text : (q : Marks) (s : Located) (f : ℕ) → (field_of q s f).text ≡ field q s.text f
unfolding field_of
field-text q s f = text-step q s f (is_header s.text) ∙ sym (text-step q (whole s.text) f (is_header s.text))

field_step : (q : Marks) (s : Text) (f : ℕ) (b : Bool)
    → Stands s (pick b (header_field_start q s f) (4 + start q.field f (drop 4 s))) (pick b (header_field q s f) (piece f (split q.field (drop 4 s))))
field_step q s f true = header-stands q s f
field_step q s f false = cut-behind q 4 f s

pub field-stands : (q : Marks) (s : Text) (f : ℕ) → Stands s (field_start q s f) (field q s f)
unfolding field_start
field-stands q s f = rw (field_is q s f) (field_step q s f (is_header s))

-- THE START of a field that has bytes, as the definition and as the code have it
abbrev StartIs : Located → ℕ → Text → ℕ → Type 0
StartIs x k t a = empty t ≡ false → x.start ≡ k + a

behind-start : (q : Marks) (s : Located) (k n : ℕ) → StartIs (inside q.field n (after k s)) s.start (piece n (split q.field (drop k s.text))) (k + start q.field n (drop k s.text))
behind-start q s k n e = omega (arith, inside-start q.field n (after k s) e)

header-start : (q : Marks) (s : Located) (f : ℕ) → StartIs (header_field_of q s f) s.start (header_field q s.text f) (header_field_start q s.text f)
header-start q s zero e = not-true (sym e)
header-start q s (suc zero) e = refl
header-start q s (suc (suc zero)) e = refl
header-start q s (suc (suc (suc i))) e = behind-start q s header_size (suc i) e

start-step : (q : Marks) (s : Located) (f : ℕ) (b : Bool)
    → StartIs (pick b (header_field_of q s f) (inside q.field f (after opening_size s))) s.start
    (pick b (header_field q s.text f) (piece f (split q.field (drop opening_size s.text))))
    (pick b (header_field_start q s.text f) (opening_size + start q.field f (drop opening_size s.text)))
start-step q s f true = header-start q s f
start-step q s f false = behind-start q s opening_size f

pub field-start : (q : Marks) (s : Located) (f : ℕ) → StartIs (field_of q s f) s.start (field q s.text f) (field_start q s.text f)
unfolding field_start
field-start q s f e = unfold field_of in start-step q s f (is_header s.text) (rw (field_is q s.text f) at e)

-- of no segment there is no field
pub field-nil : (q : Marks) (f : ℕ) → field q [] f ≡ []
unfolding same
field-nil q f = field_is q [] f ∙ piece-nil q.field f
