-- A short flat text that begins with bytes of its first component breaks nothing where every leaf takes texts of its length.
use mathlib.Core.Path.{◌≡◌, refl, sym, ◌∙◌}
use Prim.Native.Nat.{ℕ, ◌+◌, ◌≤◌}
use native.Mathlib.Omega.{arith}
use mathlib.Core.Bool.{Bool, true, false, not, ◌&&◌, ◌||◌}
use mathlib.Core.List.{List, [], ◌∷◌, flat_map}
use lib.ListN.{length, get_or}
use lib.Dec.{eqb, leb}
use borrow.Author.Tests.{eqb-true, ne_eqb, leb-true, le-ltb}
use Rattle.text.specs.Bytes.{Text, empty, every, some, within}
use Rattle.text.specs.declared.marks.Marks.{Marks}
use Rattle.text.proofs.Tests.{both, not-true as no, and-false}
use Rattle.parts.specs.Split.{split, piece, front}
use Rattle.parts.specs.Start.{start}
use Rattle.parts.specs.Span.{part_text}
use Rattle.parts.proofs.Split.{piece_le}
use Rattle.parts.proofs.Descent.{within-piece}
use Rattle.parts.proofs.Join.{split_one}
use Rattle.profile.specs.Table.{Simple, SI, NM, DTM, TM, ST, TX, FT, ID, IS, Codes, any, only, Leaf, of_type, no_such_day}
use Rattle.profile.specs.Order.{takes_any, has_no_list, takes_up_to}
use Rattle.profile.proofs.Days.{only-dates}
use Rattle.codes.specs.Inner.{SureUpTo, sure}
use Rattle.checks.specs.Place.{Place, place}
use Rattle.checks.specs.Repetition.{leaf_in}
use Rattle.checks.specs.View.{Entry}
use Rattle.checks.specs.Repetition.{entries_of}
use Rattle.checks.specs.Fault.{Check, accepted, list_checks, leaf_checks, repetition_checks, first_broken}
use Rattle.leaves.specs.Judged.{ReadsRepetition}
use Rattle.leaves.proofs.Breaks.{broken-flat}
use Rattle.fields.specs.Flat.{is_flat, passed_once}
use Rattle.fields.proofs.FlatField.{flat, flat-plain, flat-within}

-- types and lists that take any text
any-type : (k : Simple) (t : Text) → takes_any k ≡ true → of_type k t ≡ true
any-type SI t e = no e
any-type NM t e = no e
any-type DTM t e = no e
any-type TM t e = no e
any-type ST t e = refl
any-type TX t e = refl
any-type FT t e = refl
any-type ID t e = refl
any-type IS t e = refl

any_day : (k : Simple) (t : Text) → takes_any k ≡ true → no_such_day k t ≡ false
any_day k t e = not_date (no_such_day k t) refl where
  not_date : (b : Bool) → no_such_day k t ≡ b → b ≡ false
  not_date true h = no (rw (only-dates k t h) at e)
  not_date false h = refl

any_code : (p : Place) (l : Codes) (t : Text) → has_no_list l ≡ true → first_broken (list_checks p l t) ≡ accepted
unfolding first_broken
any_code p any t e = refl
any_code p (only codes n) t e = no e

-- what is said of a leaf
pub record Takes (n : ℕ) (l : Leaf) : Type 0 where
  pub limit : n ≤ l.limit
  pub type : takes_any l.type ≡ true
  pub list : has_no_list l.list ≡ true
  pub first : l.subcomponent ≡ 1
  pub star : l.star ≡ true → l.component ≡ 1

star-one : (b : Bool) (c : ℕ) → not b || eqb c 1 ≡ true → b ≡ true → c ≡ 1
star-one true c e s = eqb-true c 1 e
star-one false c e s = no s

takes : (n : ℕ) (l : Leaf) → takes_up_to n l ≡ true → Takes n l
takes n l e =
    let a = leb n l.limit in
    let b = takes_any l.type in
    let c = has_no_list l.list in
    let d = eqb l.subcomponent 1 in
    let h = both (a && b && c && d) (not l.star || eqb l.component 1) e in
    let i = both (a && b && c) d h.0 in
    let j = both (a && b) c i.0 in
    let k = both a b j.0 in
    record {
      limit = leb-true n l.limit k.0;
      type = k.1;
      list = j.1;
      first = eqb-true l.subcomponent 1 i.1;
      star = star-one l.star l.component h.1;
    }

-- the first piece of a text that does not begin with the separator
front-some : (b : ℕ) (ps : List Text) → empty (piece 1 (front false b ps)) ≡ false
front-some b [] = refl
front-some b (p ∷ ps) = refl

begun : (sep : ℕ) (x : Text) → 1 ≤ length x → (get_or x 0 0 ≡ sep → ⊥) → empty (piece 1 (split sep x)) ≡ false
unfolding split
begun sep [] l n = absurd (omega arith)
begun sep (b ∷ x) l n = rw (ne_eqb b sep n) (front-some b (split sep x))

module _ (q : Marks) (x : Text) (clean : is_flat q x ≡ true) (filled : 1 ≤ length x) (begins : get_or x 0 0 ≡ q.component → ⊥) (n : ℕ) (short : length x ≤ n) where
  -- a component is its own first leaf
  abbrev component : ℕ → Text
  component c = piece c (split q.component x)

  abbrev from : ℕ → ℕ
  from c = start q.component c x

  component-is : (c : ℕ) → within (from c) (from c + length (component c)) x ≡ component c
  component-is c = within-piece x q.component c (from c) (from c + length (component c)) refl refl

  component-flat : (c : ℕ) → is_flat q (component c) ≡ true
  component-flat c = rw (component-is c) at (flat-within q (from c) (from c + length (component c)) x clean)

  leaf-is : (c : ℕ) → leaf_in q x c 1 ≡ component c
  unfolding part_text
  leaf-is c = rw (split_one q.subcomponent (component c) (flat q (component c) (component-flat c)).subcomponent)

  first-filled : empty (component 1) ≡ false
  first-filled = begun q.component x filled begins

  -- nothing is broken at a leaf
  starred : (b : Bool) (c : ℕ) → (b ≡ true → c ≡ 1) → empty (component c) && b ≡ false
  starred true c e = rw (e refl, first-filled)
  starred false c e = and-false (empty (component c))

  leaf-good : (l : Leaf) → Takes n l → (p : Place) → first_broken (leaf_checks q p l (leaf_in q x l.component l.subcomponent)) ≡ accepted
  unfolding first_broken
  leaf-good l t p =
      let c = l.component in
      let fits : length (component c) ≤ l.limit = omega (arith, piece_le q.component c x, t.limit, short) in
      let plain = flat-plain q (component c) (component-flat c) in
      rw (t.first, leaf-is c, starred l.star c t.star, plain.0, ← plain.1, le-ltb l.limit (length (component c)) fits, any-type l.type (component c) t.type, any_day l.type (component c) t.type, any_code p l.list (component c) t.list, and-false (not (empty (component c))))

  leaves-good : (ls : List Leaf) → every (takes_up_to n) ls ≡ true → (m : Text) (o f k : ℕ)
      → first_broken (repetition_checks q m o f (record { number = k; entries = entries_of q ls x })) ≡ accepted
  unfolding every flat_map first_broken
  leaves-good [] e m o f k = refl
  leaves-good (l ∷ ls) e m o f k =
      let h = both (takes_up_to n l) (every (takes_up_to n) ls) e in
      let checks : Entry → List Check = λ e. leaf_checks q (place m o f k e.leaf.component e.leaf.subcomponent) e.leaf e.text in
      broken-flat checks (record { leaf = l; text = leaf_in q x l.component l.subcomponent }) (entries_of q ls x)
      ∙ rw (leaf-good l (takes n l h.0) (place m o f k l.component l.subcomponent)) (leaves-good ls h.1 m o f k)

  -- THE REPETITION is filled and breaks nothing
  pub sure-reads : {ls : List Leaf} → SureUpTo n ls → ReadsRepetition q ls x passed_once
  unfolding every some
  sure-reads (sure {l = l} {ls = ls} one e) =
      let t = takes n l (both (takes_up_to n l) (every (takes_up_to n) ls) e).0 in
      record {
        filled = rw (one, t.first, leaf-is 1, first-filled);
        first = λ m o f k. sym (leaves-good (l ∷ ls) e m o f k);
      }
