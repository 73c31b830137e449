-- What the walk over the segments keeps: the three tests, told from the segments that are left.
use mathlib.Core.Path.{◌≡◌, refl, sym, ap, ◌∙◌}
use Prim.Native.Nat.{ℕ, ◌+◌, ◌≤◌, ◌<◌}
use native.Mathlib.Omega.{arith}
use mathlib.Core.Bool.{Bool, true, false, ◌&&◌, ◌||◌}
use mathlib.Core.List.{List, [], ◌∷◌}
use lib.ListN.{length, drop}
use lib.Dec.{ltb}
use borrow.Author.Tests.{lt-ltb, le-ltb}
use Rattle.text.specs.Bytes.{Text, pick, every, some}
use Rattle.text.specs.Answer.{Answer, refused, given, first}
use Rattle.text.specs.Marks.{marks_of}
use Rattle.text.specs.declared.marks.Marks.{Marks}
use Rattle.text.specs.declared.refusal.Refusal.TheVariants.{BadSegment, SecondHeader, TooMany}
use Rattle.text.proofs.Lists.{or_assoc, or-false}
use Rattle.frame.specs.Segments.{segments, is_header}
use Rattle.frame.specs.Frame.{is_segment, segment_tests}

-- the segments that are left, without the first of the message
abbrev pub later : ℕ → List Text → List Text
later count ss = pick (ltb 0 count) ss (drop 1 ss)

pub record Walked (m : Text) (second : Bool) (count : ℕ) (left : List Text) : Type 0 where
  pub formed : every (is_segment (marks_of m)) (segments m) ≡ every (is_segment (marks_of m)) left
  pub headers : some is_header (drop 1 (segments m)) ≡ second || some is_header (later count left)
  pub counted : length (segments m) ≡ count + length left

pub walked_first : (m : Text) → Walked m false 0 (segments m)
walked_first m = record { formed = refl; headers = refl; counted = omega arith }

headers-step : (second b : Bool) (s : Text) (ss : List Text)
    → second || some is_header (pick b (s ∷ ss) (drop 1 (s ∷ ss))) ≡ (second || (b && is_header s)) || some is_header ss
unfolding some
headers-step second true s ss = sym (or_assoc second (is_header s) (some is_header ss))
headers-step second false s ss = ap (λ (b : Bool). b || some is_header ss) (sym (or-false second))

module _ (m : Text) (second : Bool) (count : ℕ) (left : List Text) (w : Walked m second count left) where
  module _ (s : Text) (ss : List Text) (next : left ≡ s ∷ ss) where
    -- what `is_segment` says of it
    tested : (q : Marks) (r b : Bool) → q ≡ marks_of m → r ≡ is_segment q s → r ≡ b → is_segment (marks_of m) s ≡ b
    tested q r b e f g = rw (← e) (sym f ∙ g)

    pub walked_bad : (q : Marks) (r : Bool) → q ≡ marks_of m → r ≡ is_segment q s → r ≡ false → ◌≡◌ {A = Answer (Unit {0})} (refused BadSegment) (first (segment_tests m) tt)
    unfolding first every
    walked_bad q r e f g = rw (w.formed, next, tested q r false e f g)

    pub walked_on : (q : Marks) (r h : Bool) → q ≡ marks_of m → r ≡ is_segment q s → r ≡ true → h ≡ is_header s
        → Walked m (second || (ltb 0 count && h)) (count + 1) ss
    unfolding every
    walked_on q r h e f g k =
        record {
          formed = w.formed ∙ rw (next, tested q r true e f g);
          headers = w.headers ∙ rw (k, next, lt-ltb 0 (count + 1) (omega arith)) (headers-step second (ltb 0 count) s ss);
          counted = omega (arith, w.counted, ap length next);
        }

  module _ (last : left ≡ []) where
    formed-all : every (is_segment (marks_of m)) (segments m) ≡ true
    unfolding every
    formed-all = w.formed ∙ rw last

    later-none : (b : Bool) → pick {A = List Text} b [] (drop 1 []) ≡ []
    later-none true = refl
    later-none false = refl

    headers-all : some is_header (drop 1 (segments m)) ≡ second
    unfolding some
    headers-all = w.headers ∙ rw (last, later-none (ltb 0 count)) (or-false second)

    count-all : length (segments m) ≡ count
    count-all = omega (arith, w.counted, ap length last)

    pub walked_second : second ≡ true → ◌≡◌ {A = Answer (Unit {0})} (refused SecondHeader) (first (segment_tests m) tt)
    unfolding first
    walked_second e = rw (formed-all, headers-all, e)

    pub walked_many : second ≡ false → 512 < count → ◌≡◌ {A = Answer (Unit {0})} (refused TooMany) (first (segment_tests m) tt)
    unfolding first
    walked_many e h = rw (formed-all, headers-all, e, count-all, lt-ltb 512 count h)

    pub walked_good : second ≡ false → count ≤ 512 → ◌≡◌ {A = Answer (Unit {0})} (given tt) (first (segment_tests m) tt)
    unfolding first
    walked_good e h = rw (formed-all, headers-all, e, count-all, le-ltb 512 count h)
