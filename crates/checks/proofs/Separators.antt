-- A message with a good frame begins with MSH and its separators, and so does its first segment: from there the two fields are computed.
use mathlib.Core.Path.{◌≡◌, refl, sym, ap, ◌∙◌}
use Prim.Native.Nat.{ℕ, ◌+◌}
use native.Mathlib.Omega.{arith}
use mathlib.Core.Bool.{Bool, true, false, not, ◌&&◌}
use mathlib.Core.List.{List, [], ◌∷◌, ◌++◌}
use lib.ListN.{length, get_or, take, drop, take-append-drop}
use lib.Dec.{eqb}
use borrow.Author.Tests.{eqb-true}
use Rattle.text.specs.Bytes.{Text, pick, bytes, cr, empty, every, keep, same}
use Rattle.text.specs.Answer.{given, first}
use Rattle.text.specs.Marks.{marks_of}
use Rattle.text.proofs.Tests.{not-true, both, same_true}
use Rattle.text.proofs.Answer.{first-passed}
use Rattle.parts.specs.Split.{closed}
use Rattle.parts.proofs.Split.{before-first}
use Rattle.frame.specs.Segments.{segments, occurrence}
use Rattle.frame.specs.Starts.{ahead, field_start}
use Rattle.frame.specs.Frame.{header, frame_tests, framed}
use Rattle.frame.proofs.Frame.{framed-tests, closed-segments}
use Rattle.frame.proofs.Header.{header-there}
use Rattle.frame.proofs.Segments.{field-header}
use Rattle.checks.specs.Place.{is_place, text_at}
use Rattle.checks.specs.Starts.{leaf_start, start_at}
use Rattle.checks.proofs.Leaf.{leaf-one}
use Rattle.checks.proofs.Stands.{text-is, found-is}
use Rattle.checks.specs.LookUp.{found, look_up}
use Rattle.checks.specs.Separators.{MSH, IsFirst, Unsplit, other_four, SeparatorsStand, Separators}

-- a text that begins with bytes none of which is CR: so does what stands before its first CR
module _ (r rest : Text) where
  begins : (h s : Text) → every (λ b. not (eqb b cr)) h ≡ true → s ++ (cr ∷ rest) ≡ h ++ r → s ≡ h ++ drop (length h) s
  unfolding every
  begins [] s e f = refl
  begins (b ∷ h) [] e f = absurd (let z : b ≡ cr = cc in not-true (rw z at e))
  begins (b ∷ h) (x ∷ s) e f =
      let g = begins h s (both (not (eqb b cr)) (every (λ b. not (eqb b cr)) h) e).1 (cc) in
      let z : x ≡ b = cc in
      cc

-- segments that together begin with the header: the first of them does
headed : (m : Text) (ss : List Text) (r : Text) → closed cr ss ≡ header (marks_of m) ++ r
    → ss ≡ (header (marks_of m) ++ drop 9 (get_or ss 0 [])) ∷ drop 1 ss
unfolding closed marks_of every
headed m [] r e = absurd (let z : ◌≡◌ {A = ℕ} 0 1 = cc in omega arith)
headed m (s ∷ ss) r e = ap (λ (t : Text). t ∷ ss) (begins r (closed cr ss) (header (marks_of m)) s refl e)

-- THE LEAF of a field that is one leaf, and nothing beyond it
abbrev one_leaf : Text → ℕ → ℕ → ℕ → Text
one_leaf t r c b = pick (eqb r 1 && eqb c 1 && eqb b 1) t []

beyond-step : (t : Text) (r c b : ℕ) (x y z : Bool) → eqb r 1 ≡ x → eqb c 1 ≡ y → eqb b 1 ≡ z → (IsFirst r c b → ⊥) → pick (x && y && z) t [] ≡ []
beyond-step t r c b true true true e f g h = absurd (h (eqb-true r 1 e, eqb-true c 1 f, eqb-true b 1 g))
beyond-step t r c b true true false e f g h = refl
beyond-step t r c b true false true e f g h = refl
beyond-step t r c b true false false e f g h = refl
beyond-step t r c b false true true e f g h = refl
beyond-step t r c b false true false e f g h = refl
beyond-step t r c b false false true e f g h = refl
beyond-step t r c b false false false e f g h = refl

beyond : (t : Text) (r c b : ℕ) → (IsFirst r c b → ⊥) → one_leaf t r c b ≡ []
beyond t r c b h = beyond-step t r c b (eqb r 1) (eqb c 1) (eqb b 1) refl refl refl h

-- THE TWO FIELDS, computed from the first segment; t is what it has after the separators. Only these four laws look into the definitions
module _ (m t : Text) (ss : List Text) (opening : segments m ≡ (header (marks_of m) ++ t) ∷ ss) where
  abbrev s : Text
  s = header (marks_of m) ++ t

  here : occurrence m (bytes "MSH") 1 ≡ s
  unfolding keep same marks_of
  here = rw opening

  first-text : (r c b : ℕ) → text_at m (MSH 1 r c b) ≡ one_leaf ((marks_of m).field ∷ []) r c b
  unfolding same marks_of
  first-text r c b =
      text-is m (MSH 1 r c b)
      ∙ rw here (leaf-one (marks_of m) s 1 r c b refl ∙ ap (λ (x : Text). one_leaf x r c b) (field-header (marks_of m) s 1 refl))

  second-text : (r c b : ℕ) → text_at m (MSH 2 r c b) ≡ one_leaf (other_four (marks_of m)) r c b
  unfolding same marks_of
  second-text r c b =
      text-is m (MSH 2 r c b)
      ∙ rw here (leaf-one (marks_of m) s 2 r c b refl ∙ ap (λ (x : Text). one_leaf x r c b) (field-header (marks_of m) s 2 refl))

  first-start : start_at m (MSH 1 1 1 1) ≡ 3
  unfolding start_at leaf_start field_start ahead keep same marks_of
  first-start = rw (opening, before-first)

  second-start : start_at m (MSH 2 1 1 1) ≡ 4
  unfolding start_at leaf_start field_start ahead keep same marks_of
  second-start = rw (opening, before-first)

-- and looked up
module _ (m : Text) (good : framed m ≡ true) where
  looked_up : (f r c b : ℕ) → is_place (MSH f r c b) ≡ true → look_up m (MSH f r c b) ≡ given (found m (MSH f r c b))
  unfolding look_up first
  looked_up f r c b e =
      first-passed (frame_tests m) _ (found m (MSH f r c b)) good ∙ rw (e, header-there m good)

  stands-unsplit : (f : ℕ) (t : Text) (start : ℕ) → is_place (MSH f 1 1 1) ≡ true → empty t ≡ false
      → ((r c b : ℕ) → text_at m (MSH f r c b) ≡ one_leaf t r c b) → start_at m (MSH f 1 1 1) ≡ start
      → Unsplit m f t start (start + length t)
  stands-unsplit f t start e some texts starts =
      let none : (r c b : ℕ) → (IsFirst r c b → ⊥) → text_at m (MSH f r c b) ≡ [] = λ r c b h. (texts r c b ∙ beyond t r c b h) in
      record {
        text = texts 1 1 1;
        found = looked_up f 1 1 1 e ∙ ap given (found-is m (MSH f 1 1 1) ∙ rw (texts 1 1 1, some, starts));
        no_text = none;
        empty = λ r c b h e. (looked_up f r c b e ∙ ap given (found-is m (MSH f r c b) ∙ rw (none r c b h)));
      }

  stand : (t : Text) (ss : List Text) → segments m ≡ (header (marks_of m) ++ t) ∷ ss → SeparatorsStand m
  unfolding marks_of
  stand t ss e =
      record {
        msh_1 = stands-unsplit 1 ((marks_of m).field ∷ []) 3 refl refl (first-text m t ss e) (first-start m t ss e);
        msh_2 = stands-unsplit 2 (other_four (marks_of m)) 4 refl refl (second-text m t ss e) (second-start m t ss e);
      }

pub separators : Separators
separators m good =
    let tests = framed-tests m good in
    let nine : take 9 m ≡ header (marks_of m) = same_true (take 9 m) (header (marks_of m)) tests.headed in
    let begun : closed cr (segments m) ≡ header (marks_of m) ++ drop 9 m =
    closed-segments m tests.closed_by_cr ∙ sym (take-append-drop 9 m) ∙ ap (λ (t : Text). t ++ drop 9 m) nine in
    stand m good _ _ (headed m (segments m) (drop 9 m) begun)
