-- The lines as they are written, one text after another.
use mathlib.Core.Path.{◌≡◌, refl, sym, ap, ◌∙◌}
use Prim.Native.Nat.{ℕ}
use mathlib.Core.List.{List, [], ◌∷◌, ◌++◌, append_assoc, append-nil}
use Rattle.text.specs.Bytes.{Text, bytes, byte}
use Rattle.text.specs.Decimal.{decimal}
use Rattle.parts.specs.Split.{led, join}
use Rattle.reader.specs.Place.{Place}
use Rattle.reader.specs.Fault.{condition}
use Rattle.line.specs.Line.{place_words, fault_line, text_line, newline, as_line}

pub text-written : (a e : ℕ)
    → ((bytes "text" ++ (byte " " ∷ decimal a)) ++ (byte " " ∷ decimal e)) ++ newline ∷ [] ≡ as_line (text_line a e)
unfolding text_line join led
text-written a e =
    simp (append_assoc, append-nil)
    (ap (λ (l : Text). bytes "text " ++ l) (sym (append_assoc (decimal a) (byte " " ∷ decimal e) (newline ∷ []))))

-- a place's words, a blank before each
pub place-written : (n o f r c b : Text)
    → (((((byte " " ∷ n) ++ (byte " " ∷ o)) ++ (byte " " ∷ f)) ++ (byte " " ∷ r)) ++ (byte " " ∷ c)) ++ (byte " " ∷ b)
    ≡ led (byte " ") (n ∷ o ∷ f ∷ r ∷ c ∷ b ∷ [])
unfolding led
place-written n o f r c b = simp (append_assoc, append-nil)

pub led-more : (sep : ℕ) (ps qs : List Text) → led sep (ps ++ qs) ≡ led sep ps ++ led sep qs
unfolding led
led-more sep [] qs = refl
led-more sep (p ∷ ps) qs = ap (λ (l : Text). sep ∷ p ++ l) (led-more sep ps qs) ∙ ap (◌∷◌ sep) (sym (append_assoc p (led sep ps) (led sep qs)))

words-written : (w : List Text) (k n : Text)
    → (((bytes "fault" ++ led (byte " ") w) ++ (byte " " ∷ k)) ++ (byte " " ∷ n)) ++ newline ∷ []
    ≡ as_line (join (byte " ") (bytes "fault" ∷ w ++ k ∷ n ∷ []))
unfolding led join
words-written w k n =
    rw (led-more (byte " ") w (k ∷ n ∷ []))
    (simp (append_assoc, append-nil)
    (ap (λ (l : Text). bytes "fault" ++ (led (byte " ") w ++ byte " " ∷ l)) (sym (append_assoc k (byte " " ∷ n) (newline ∷ [])))))

-- a fault's line: the word, the place's words, the condition and the reason
pub fault-written : (p : Place) (n : ℕ)
    → (((bytes "fault" ++ led (byte " ") (place_words p)) ++ (byte " " ∷ decimal (condition n))) ++ (byte " " ∷ decimal n)) ++ newline ∷ []
    ≡ as_line (fault_line p n)
unfolding fault_line
fault-written p n = words-written (place_words p) (decimal (condition n)) (decimal n)
