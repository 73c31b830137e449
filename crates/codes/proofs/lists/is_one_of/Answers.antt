-- `is_one_of`: what is left of the codes decides.
use Rattle.std.proofs.Common.{◌≡◌, refl, sym, subst, ap, ◌∙◌, ◌≤◌, ◌<◌, ℕ, suc, Bool, ◌/◌, ◌-◌, get_or, length-drop, take_all, List, [], ◌∷◌, length, take, drop, true, false, ◌||◌, arith}
use lib.Dec.{eqb, ltb}
use borrow.Author.Tests.{eqb-true, eqb-false, ltb-true, ltb-false}
use Rattle.text.proofs.Lists.{or_either, or-none}
use Rattle.text.specs.Bytes.{Text, same, some, is_one, within}
use Rattle.profile.specs.Codes.{codes_from, codes_behind, are_codes}
use Rattle.codes.proofs.Numbered.{not-zero}
use Rattle.codes.proofs.Spelled.{next-code}
use Rattle.codes.proofs.Walked.{none-fits, first_number, walk-found, walk-other, walk_past}
use Rattle.codes.proofs.lists.is_one_of.Goals as goal
use Rattle.codes.proofs.lists.is_one_of.Goals.{else-number-first-via-then-number-first+else-follows, else-number-first-via-else-number-first}

-- a text that may be a code
other : (n : ℕ) → eqb n 0 || ltb 20 n ≡ true → (k : ℕ) → k < 20 → n ≡ suc k → ⊥
other n e k h l = or_either (eqb n 0) (ltb 20 n) (λ z. absurd (omega (arith, l, eqb-true n 0 z))) (λ z. absurd (omega (arith, l, h, ltb-true 20 n z))) e

fits : (n : ℕ) → eqb n 0 || ltb 20 n ≡ false → (1 ≤ n) × (n ≤ 20)
fits n e =
    let h = or-none (eqb n 0) (ltb 20 n) e in
    (not-zero n (eqb-false n 0 h.0), ltb-false 20 n h.1)

-- the bytes after the first, as a part of the text
tail : (s : Text) → take (length s - 1) (drop 1 s) ≡ drop 1 s
tail s = let l : length (drop 1 s) ≤ length s - 1 = simp length-drop (omega arith) in take_all (length s - 1) (drop 1 s) l

-- codes told by what they are split into
module _ (left : List ℕ) (x : ℕ) (xs : List ℕ) (s : Text) (is : left ≡ x ∷ xs) (are : are_codes left ≡ true) where
  split : are_codes (x ∷ xs) ≡ true
  split = subst (λ l. are_codes l ≡ true) is are

  module _ (code others : List ℕ) (front : code ≡ take (x / 256) xs) (back : others ≡ drop (x / 256) xs) where
    on : are_codes others ≡ true
    on = subst (λ l. are_codes l ≡ true) (sym back) (next-code x xs split).behind.rest

    module _ (filled : 1 ≤ length s) (first_byte : get_or s 0 0 < 256) where
      module _ (r : Bool) (told : r ≡ same (take (length s - 1) (drop 1 s)) code) where
        told_all : r ≡ same (drop 1 s) (take (x / 256) xs)
        told_all = told ∙ ap (λ t. same t code) (tail s) ∙ ap (same (drop 1 s)) front

        found : x ≡ first_number s → r ≡ true → true ≡ is_one s (codes_from left)
        found e h = rw is (walk-found x xs s filled first_byte split r told_all e h)

        past : r ≡ false → is_one s (codes_from others) ≡ is_one s (codes_from left)
        past h = rw (is, back) (walk_past x xs s filled first_byte split r told_all h)

      no_other : (x ≡ first_number s → ⊥) → is_one s (codes_from others) ≡ is_one s (codes_from left)
      no_other e = rw (is, back) (walk-other x xs s filled first_byte split e)

none_left : (left : List ℕ) (s : Text) → length left ≡ 0 → false ≡ is_one s (codes_from left)
unfolding codes_behind some
none_left [] s e = refl
none_left (x ∷ xs) s e = absurd (omega (arith, e))

pub returns-then-s : goal.returns-then-s
returns-then-s c = none-fits c.args.s.now (other (length c.args.s.now) c.if-s.true) (within c.args.start c.args.end c.args.codes.now) c.requires.1

pub split_at-requires : goal.split_at-requires
split_at-requires c = (next-code c.in-Some.number.now c.in-Some.rest.now (subst (λ l. are_codes l ≡ true) c.in-Some.ensures.cases.0 c.loop-number.invariant.are)).behind.there

pub returns-then-follows : goal.returns-then-follows
returns-then-follows c =
    found c.loop-number.left.now _ _ c.args.s.now c.in-Some.ensures.cases.0 c.loop-number.invariant.are _ _ c.split_at.ensures.front c.split_at.ensures.back
    (fits (length c.args.s.now) c.if-s.false).0 (c.type_inv.s 0).fits _ c.follows.ensures c.if-number-first.true c.if-follows.true
    ∙ c.loop-number.invariant.same

pub loop-number-preserved : goal.loop-number-preserved
loop-number-preserved c =
    let filled = (fits (length c.args.s.now) c.if-s.false).0 in
    record {
      are = on c.loop-number.left.now _ _ c.args.s.now c.in-Some.ensures.cases.0 c.loop-number.invariant.are _ _ c.split_at.ensures.front c.split_at.ensures.back;
      same =
          elim c.else-number-first.branch [
            | else-number-first-via-then-number-first+else-follows w ↦
                past c.loop-number.left.now _ _ c.args.s.now c.in-Some.ensures.cases.0 c.loop-number.invariant.are _ _ c.split_at.ensures.front c.split_at.ensures.back
                filled (c.type_inv.s 0).fits _ w.follows.ensures w.if-follows.false
            | else-number-first-via-else-number-first w ↦
                no_other c.loop-number.left.now _ _ c.args.s.now c.in-Some.ensures.cases.0 c.loop-number.invariant.are _ _ c.split_at.ensures.front c.split_at.ensures.back
                filled (c.type_inv.s 0).fits w.if-number-first.false
          ]
          ∙ c.loop-number.invariant.same;
    }

pub returns : goal.returns
returns c = none_left c.loop-number.left.now c.args.s.now c.in_default.ensures.cases ∙ c.loop-number.invariant.same
