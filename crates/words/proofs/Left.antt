-- The first of the words that are left, and those after it.
use Rattle.std.proofs.Common.{◌≡◌, ℕ, ◌+◌, ◌≤◌, ◌<◌, ◌⊎◌, inl, inr, List, [], ◌∷◌, length, take, Option, Some, None, is_some, Bool, true, false, not, refl, arith, add-one}
use Rattle.std.proofs.Math.Seq.{take-length}
use Rattle.std.specs.Borrow.{Bor}
use Rattle.std.specs.Option.{MatchOption}
use Rattle.std.specs.List.{slice_range}
use Rattle.text.specs.Bytes.{Text, byte, empty}
use Rattle.text.proofs.Lists.{part-rest}
use Rattle.parts.specs.Start.{reach}
use Rattle.parts.proofs.Join as join
use Rattle.parts.proofs.Join.{split-some}
use Rattle.parts.proofs.Reach.{reach_le, split-next, split-last}
use Rattle.words.specs.Left.{words_of, left_in}

abbrev blank : ℕ
blank = byte " "

-- a word lies in what is left
pub end_inside : (t : Text) (e : ℕ) → e ≡ 0 + reach blank t → e ≤ length t
end_inside t e f = omega (arith, f, reach_le blank t)

-- what is left behind it: nothing where it is the last one
pub words_next : (t : Text) (e : ℕ) (o : Option (Bor Text)) → e ≡ 0 + reach blank t
    → MatchOption o ((length t < e + 1) ⊎ (length t < length t))
    (λ x. (e + 1 ≤ length t) × (length t ≤ length t) × (x.now ≡ slice_range t (e + 1) (length t)) × (length x.now + (e + 1) ≡ length t))
    → words_of t ≡ take e t ∷ left_in o
words_next t e None f (inl none) =
    let k : e ≡ length t = omega (arith, f, none, reach_le blank t) in
    rw (k, take-length t) (split-last blank t (omega (arith, f, none)))
words_next t e None f (inr none) = absurd (omega (arith, none))
words_next t e (Some x) f m =
    let k : reach blank t ≡ e = omega (arith, f) in
    rw (m.2, part-rest (e + 1) t, add-one) (rw k at (split-next blank t (omega (arith, f, m.0))))

-- where something is left there is a word, be it one of no bytes
some-left : (ps : List Text) → join.Some ps → false ≡ empty ps
some-left [] h = absurd h
some-left (p ∷ ps) h = refl

pub over : (o : Option (Bor Text)) (none : Bool) → is_some o ≡ not none → none ≡ empty (left_in o)
over None true e = refl
over None false e = cc
over (Some rest) true e = cc
over (Some rest) false e = some-left (words_of rest.now) (split-some blank rest.now)
