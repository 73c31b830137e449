-- The MSA's code and the ERR of a reply as they are written, one text after another.
use mathlib.Core.Path.{◌≡◌, refl, sym, ap, ◌∙◌}
use Prim.Native.Nat.{ℕ, zero, suc, ◌+◌}
use native.Mathlib.Omega.{arith}
use mathlib.Core.Bool.{Bool, true, false, not, ◌&&◌, ◌||◌}
use mathlib.Core.List.{List, [], ◌∷◌, ◌++◌, map, append_assoc, append-nil}
use lib.ListN.{length, length-append}
use lib.Dec.{eqb, ltb}
use borrow.Author.Tests.{lt-ltb, ne_eqb, not-true, not-false}
use Rattle.text.specs.Bytes.{Text, pick, bytes, byte, cr, empty}
use Rattle.text.specs.Decimal.{decimal}
use Rattle.text.specs.Ranges.{◌to◌, is_within}
use Rattle.text.specs.Marks.{usual}
use Rattle.parts.specs.Split.{led, join, closed}
use Rattle.reader.specs.declared.Place as code-place
use Rattle.reader.specs.Place.{Place}
use Rattle.reader.specs.Told.{place_of}
use Rattle.reader.specs.Fault.{condition}
use Rattle.report.specs.Error.{without_trailing_zeros, place_text, condition_text}
use Rattle.report.specs.Inner.{condition_words, error_text}

-- a number of a place after its separator
abbrev numbered : Bool → ℕ → Text
numbered w n = pick w (byte "^" ∷ decimal n) []

module _ (w : Bool) (n : ℕ) where
  pub numbered-none : not w ≡ true → numbered w n ≡ []
  numbered-none h = rw (not-true w h)

  pub numbered-some : not w ≡ false → numbered w n ≡ byte "^" ∷ decimal n
  numbered-some h = rw (not-false w h)

-- a number before those that are left: it is written where it is above nought, or where something is left
led-step : (n : ℕ) (z : Bool) (r : List ℕ)
    → led (byte "^") (map decimal (pick (z && empty r) [] (n ∷ r))) ≡ numbered (not (empty r) || not z) n ++ led (byte "^") (map decimal r)
unfolding led
led-step n true [] = refl
led-step n true (k ∷ r) = refl
led-step n false [] = refl
led-step n false (k ∷ r) = refl

left_step : (n : ℕ) (z : Bool) (r : List ℕ) → not (empty (pick (z && empty r) [] (n ∷ r))) ≡ not (empty r) || not z
left_step n true [] = refl
left_step n true (k ∷ r) = refl
left_step n false [] = refl
left_step n false (k ∷ r) = refl

above : (n : ℕ) → not (eqb n 0) ≡ ltb 0 n
above zero = refl
above (suc n) = rw (ne_eqb (suc n) 0 (λ e. omega arith), lt-ltb 0 (suc n) (omega arith))

abbrev lasting : List ℕ → Bool
lasting ns = not (empty (without_trailing_zeros ns))

abbrev written : List ℕ → Text
written ns = led (byte "^") (map decimal (without_trailing_zeros ns))

module _ (n : ℕ) (ns : List ℕ) {left : Bool} (l : lasting ns ≡ left) where
  number-led : written (n ∷ ns) ≡ numbered (left || ltb 0 n) n ++ written ns
  unfolding without_trailing_zeros
  number-led = led-step n (eqb n 0) (without_trailing_zeros ns) ∙ rw (l, above n)

  number-left : lasting (n ∷ ns) ≡ left || ltb 0 n
  unfolding without_trailing_zeros
  number-left = left_step n (eqb n 0) (without_trailing_zeros ns) ∙ rw (l, above n)

none_left : lasting [] ≡ false
unfolding without_trailing_zeros
none_left = refl

none-led : written [] ≡ []
unfolding without_trailing_zeros led
none-led = refl

name-first : (t : Text) (ns : List ℕ) → join (byte "^") (t ∷ map decimal (without_trailing_zeros ns)) ≡ t ++ written ns
unfolding join
name-first t ns = refl

-- A PLACE: its name, and each number that is above nought or has a later one that is
module _ (p : code-place.Place) where
  abbrev name : Text
  name = p.first ∷ p.second ∷ p.third ∷ []

  abbrev e : Bool
  e = ltb 0 p.subcomponent

  abbrev d : Bool
  d = e || ltb 0 p.component

  abbrev c : Bool
  c = d || ltb 0 p.repetition

  abbrev b : Bool
  b = c || ltb 0 p.field

  abbrev a : Bool
  a = b || ltb 0 p.occurrence

  pub place-written : name
      ++ (numbered a p.occurrence
      ++ (numbered b p.field ++ (numbered c p.repetition ++ (numbered d p.component ++ numbered e p.subcomponent))))
      ≡ place_text (place_of p)
  place-written =
      let p1 = p.subcomponent ∷ [] in
      let p2 = p.component ∷ p1 in
      let p3 = p.repetition ∷ p2 in
      let p4 = p.field ∷ p3 in
      let h1 = number-left p.subcomponent [] none_left in
      let h2 = number-left p.component p1 h1 in
      let h3 = number-left p.repetition p2 h2 in
      let h4 = number-left p.field p3 h3 in
      sym
      (name-first name (p.occurrence ∷ p4)
      ∙ rw (
        number-led p.occurrence p4 h4,
        number-led p.field p3 h3,
        number-led p.repetition p2 h2,
        number-led p.component p1 h1,
        number-led p.subcomponent [] none_left,
        none-led,
        append-nil (numbered e p.subcomponent),
      ))

  pub place_length : length (place_text (place_of p))
      ≡ 3
      + (length (numbered a p.occurrence)
      + (length (numbered b p.field)
      + (length (numbered c p.repetition) + (length (numbered d p.component) + length (numbered e p.subcomponent)))))
  place_length = ap length (sym place-written) ∙ simp length-append (omega arith)

-- A CONDITION: its words told by its number
abbrev pub words : ℕ → Text
words k = join usual.component (decimal k ∷ condition_text k ∷ bytes "HL70357" ∷ [])

module _ (n v : ℕ) {k : ℕ} (told : k ≡ condition n) (e : k ≡ v) where
  pub condition_told : words v ≡ condition_words n
  condition_told = rw (← e, told)

-- what is none of the conditions is 0
abbrev Other : ℕ → Type 0
Other k =
    (((((((Unit × (k ≡ 100 → ⊥)) × (k ≡ 101 → ⊥)) × (k ≡ 102 → ⊥)) × (k ≡ 103 → ⊥)) × (k ≡ 200 → ⊥)) × (k ≡ 201 → ⊥)) × (k ≡ 202 → ⊥)) × (k ≡ 203 → ⊥)

other_step : (k : ℕ) (a b c d e f g l : Bool)
    → k ≡ pick a 100 (pick b 101 (pick c 102 (pick d 103 (pick e 200 (pick f 201 (pick g 202 (pick l 203 0))))))) → Other k → k ≡ 0
other_step k true b c d e f g l q h = absurd (h.0.0.0.0.0.0.0.1 q)
other_step k false true c d e f g l q h = absurd (h.0.0.0.0.0.0.1 q)
other_step k false false true d e f g l q h = absurd (h.0.0.0.0.0.1 q)
other_step k false false false true e f g l q h = absurd (h.0.0.0.0.1 q)
other_step k false false false false true f g l q h = absurd (h.0.0.0.1 q)
other_step k false false false false false true g l q h = absurd (h.0.0.1 q)
other_step k false false false false false false true l q h = absurd (h.0.1 q)
other_step k false false false false false false false true q h = absurd (h.1 q)
other_step k false false false false false false false false q h = q

pub condition-other : (n k : ℕ) → k ≡ condition n → Other k → k ≡ 0
condition-other n k q h =
    other_step k (is_within (1 to 2) n) (eqb n 3) (is_within (4 to 7) n || eqb n 13) (eqb n 8) (eqb n 9) (eqb n 10) (eqb n 11) (eqb n 12) q h

-- ERR with its CR
error_step : (p w : Text)
    → bytes "ERR||" ++ (p ++ (bytes "|" ++ (w ++ bytes "|E\r"))) ≡ closed cr (join usual.field (bytes "ERR" ∷ [] ∷ p ∷ w ∷ bytes "E" ∷ []) ∷ [])
unfolding join led closed
error_step p w = simp append_assoc

pub error_written : (p : Place) (n : ℕ)
    → bytes "ERR||" ++ (place_text p ++ (bytes "|" ++ (condition_words n ++ bytes "|E\r"))) ≡ error_text p n
error_written p n = error_step (place_text p) (condition_words n)

pub error_length : (p : Place) (n : ℕ) → length (error_text p n) ≡ 9 + (length (place_text p) + length (condition_words n))
error_length p n = ap length (sym (error_written p n)) ∙ simp length-append (omega arith)
