-- A text resolved is printable where the text is.
use mathlib.Core.Path.{◌≡◌, refl}
use Prim.Native.Nat.{ℕ, zero, suc}
use mathlib.Core.Bool.{true}
use mathlib.Core.List.{List, [], ◌∷◌, map}
use Rattle.text.specs.Bytes.{Text, pick, printable, every}
use Rattle.text.specs.Marks.{usual}
use Rattle.escape.specs.Escape.{Escape, five, begins_with, is_escape, first_byte, stands_for, stops, resolved}
use Rattle.text.specs.declared.marks.Marks.{Marks}
use Rattle.text.proofs.Tests.{both, picks}
use Rattle.text.proofs.Lists.{All, and_both}

-- the five separators are printable
pub record PlainMarks (q : Marks) : Type 0 where
  pub field : printable q.field ≡ true
  pub component : printable q.component ≡ true
  pub subcomponent : printable q.subcomponent ≡ true
  pub repetition : printable q.repetition ≡ true
  pub escape : printable q.escape ≡ true

pub usual-plain : PlainMarks usual
usual-plain = record { field = refl; component = refl; subcomponent = refl; repetition = refl; escape = refl }

-- an escape is turned into a separator, and any other byte stands for itself
stands_plain : (q : Marks) (es : List Escape) (t : Text) → All (λ (e : Escape). printable e.separator ≡ true) es → printable (first_byte t) ≡ true
    → printable (stands_for q es t) ≡ true
unfolding stands_for
stands_plain q [] t a h = h
stands_plain q (e ∷ es) t a h = picks (λ (b : ℕ). printable b ≡ true) (begins_with q t e) a.0 (stands_plain q es t a.1 h)

module _ (q : Marks) (p : PlainMarks q) where
  plain_over : (n : ℕ) (t : Text) → every printable t ≡ true → every printable (map (stands_for q (five q)) (stops q n t)) ≡ true
  unfolding every stops
  plain_over n [] e = refl
  plain_over (suc n) (b ∷ t) e = plain_over n t (both (printable b) (every printable t) e).1
  plain_over zero (b ∷ t) e =
      let l = both (printable b) (every printable t) e in
      let n : ℕ = pick (is_escape q (b ∷ t)) 2 0 in
      and_both (printable (stands_for q (five q) (b ∷ t))) (every printable (map (stands_for q (five q)) (stops q n t)))
      (stands_plain q (five q) (b ∷ t) (p.field, (p.component, (p.subcomponent, (p.repetition, (p.escape, tt))))) l.0)
      (plain_over n t l.1)

  pub resolved-plain : (t : Text) → every printable t ≡ true → every printable (resolved q t) ≡ true
  unfolding resolved
  resolved-plain t e = plain_over 0 t e
