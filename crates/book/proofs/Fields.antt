-- Laws of a slip's fields: each is read as it was written.
use mathlib.Core.Path.{◌≡◌, refl, sym, ap, ◌∙◌}
use Prim.Native.Nat.{ℕ, zero, suc, ◌+◌, ◌*◌, ◌-◌, ◌/◌, ◌%◌, ◌≤◌, ◌<◌}
use native.Mathlib.Nat.{add-zero}
use native.Mathlib.Omega.{arith}
use mathlib.Core.Bool.{Bool, true, false, not, ◌&&◌}
use mathlib.Core.List.{List, [], ◌∷◌, ◌++◌, append_assoc}
use mathlib.Core.Option.{Option, none, some}
use lib.ListN.{length, take, drop, replicate}
use lib.Seq.{take-append_seam, drop-append_seam, drop-drop}
use lib.Dec.{eqb, leb}
use borrow.Author.Tests.{eq-eqb, eqb-true, le-leb}
use Rattle.text.specs.Bytes.{Text, pick, empty, within, printable, every}
use Rattle.text.specs.Answer.{Answer, refused, given}
use Rattle.text.specs.declared.refusal.Refusal.TheVariants.{NoTag}
use Rattle.text.proofs.Tests.{empty-some}
use Rattle.text.proofs.Lists.{and_both}
use Rattle.slip.specs.Slot.{Tagged, tagged, two_bytes, tag_bytes}
use Rattle.tags.specs.Fields.{count_tag, greatest_count, head_size, Expected, size, value, has_tag, is_there, taken, is_zero, is_slip_from}
use Rattle.book.specs.Read.{Part, span, value_from}
use Rattle.book.specs.RoundTrip.{value_of_tag}

-- a value that a slip may hold, and one that it must
pub record Brief (most : ℕ) (v : Text) : Type 0 where
  pub short : length v ≤ most
  pub plain : every printable v ≡ true

pub record Held (most : ℕ) (v : Text) : Type 0 where
  pub brief : Brief most v
  pub some : 1 ≤ length v

-- the bytes of a part that was found
abbrev pub told : Text → Option Part → Answer Text
told book none = refused NoTag
told book (some p) = given (within p.start p.end book)

-- a text is the fields that are expected, and each tag of it is read as its value, wherever the text stands in a book
pub record Reads (xs : List Expected) (fs : List Tagged) (t : Text) : Type 0 where
  pub whole : is_slip_from xs t ≡ true
  pub values : (tag at : ℕ) (book r : Text) → drop at book ≡ t ++ r → told book (value_from xs tag at t) ≡ value_of_tag tag fs

-- two bytes write each number below 65,536
two_bytes_lem : (n : ℕ) → n < 65536 → n / 256 % 256 * 256 + n % 256 ≡ n
two_bytes_lem n h = omega arith

-- a field that is not Empty, before what follows it
abbrev before : ℕ → Text → Text → Text
before k v rest = k ∷ (length v / 256 % 256) ∷ (length v % 256) ∷ (v ++ rest)

tag-bytes : (k : ℕ) (v rest : Text) → 1 ≤ length v → tag_bytes (tagged k v) ++ rest ≡ before k v rest
tag-bytes k [] rest l = absurd (omega arith)
tag-bytes k (b ∷ v) rest l = refl

pub held_full : {most : ℕ} {v : Text} → Held most v → empty v ≡ false
held_full {most} {v} h = empty-some v (λ e. omega (arith, h.some))

module _ (x : Expected) (v rest : Text) (h : Held x.most v) (m : x.most < 65536) where
  size-before : size (before x.tag v rest) ≡ length v
  size-before = two_bytes_lem (length v) (omega arith)

  value_before : value (before x.tag v rest) ≡ v
  value_before = ap (λ (n : ℕ). take n (v ++ rest)) size-before ∙ take-append_seam v rest

  taken-before : taken x (before x.tag v rest) ≡ head_size + length v
  taken-before = rw (eq-eqb x.tag x.tag refl) (ap (λ (n : ℕ). head_size + n) size-before)

  -- after the field stands what follows it
  rest-before : drop (taken x (before x.tag v rest)) (before x.tag v rest) ≡ rest
  rest-before =
      ap (λ (n : ℕ). drop n (before x.tag v rest)) taken-before
      ∙ (sym (drop-drop (length v) head_size (before x.tag v rest)) ∙ drop-append_seam v rest)

  there-before : is_there x (before x.tag v rest) ≡ true
  there-before =
      rw (eq-eqb x.tag x.tag refl)
      (and_both (leb 1 (size t) && leb (size t) x.most) (every printable (value t))
      (and_both (leb 1 (size t)) (leb (size t) x.most) (le-leb 1 (size t) (omega (arith, size-before)))
      (le-leb (size t) x.most (omega (arith, size-before))))
      (rw value_before h.brief.plain))
    where
      t : Text
      t = before x.tag v rest

  module _ (xs : List Expected) (fs : List Tagged) (r : Reads xs fs rest) where
    whole_before : is_slip_from (x ∷ xs) (before x.tag v rest) ≡ true
    unfolding is_slip_from
    whole_before =
        and_both (is_there x t) (is_slip_from xs (drop (taken x t) t)) there-before
        (rw rest-before r.whole)
      where
        t : Text
        t = before x.tag v rest

    -- the book from the value on, and from after the field on
    module _ (tag at : ℕ) (book r' : Text) (e : drop at book ≡ before x.tag v rest ++ r') where
      from-value : drop (at + head_size) book ≡ v ++ (rest ++ r')
      from-value = sym (drop-drop head_size at book) ∙ (ap (drop head_size) e ∙ append_assoc v rest r')

      from-rest : drop (at + taken x (before x.tag v rest)) book ≡ rest ++ r'
      from-rest =
          ap (λ (n : ℕ). drop n book) (let q : at + taken x (before x.tag v rest) ≡ at + head_size + length v = omega (arith, taken-before) in q)
          ∙ (sym (drop-drop (length v) (at + head_size) book) ∙ (ap (drop (length v)) from-value ∙ drop-append_seam v (rest ++ r')))

      bytes-value : within (at + head_size) (at + head_size + size (before x.tag v rest)) book ≡ v
      bytes-value =
          let n : at + head_size + size (before x.tag v rest) - (at + head_size) ≡ length v = omega (arith, size-before) in
          ap (λ (l : ℕ). take l (drop (at + head_size) book)) n ∙ (ap (take (length v)) from-value ∙ take-append_seam v (rest ++ r'))

      value-step : (b : Bool) → eqb tag x.tag ≡ b
          → told book
          (pick (b && has_tag tag (before x.tag v rest)) (span (at + head_size) (size (before x.tag v rest)))
          (value_from xs tag (at + taken x (before x.tag v rest)) (drop (taken x (before x.tag v rest)) (before x.tag v rest))))
          ≡ pick (b && not (empty v)) (given v) (value_of_tag tag fs)
      value-step true q =
          rw (eq-eqb x.tag tag (sym (eqb-true tag x.tag q)), held_full h) (ap given bytes-value)
      value-step false q =
          rw rest-before (r.values tag (at + taken x (before x.tag v rest)) book r' from-rest)

    -- A FIELD that is not Empty is read as it was written
    pub reads-field : Reads (x ∷ xs) (tagged x.tag v ∷ fs) (tag_bytes (tagged x.tag v) ++ rest)
    unfolding value_from value_of_tag
    reads-field =
        rw (tag-bytes x.tag v rest h.some)
        (record {
          whole = whole_before;
          values = λ tag at book r' e. value-step tag at book r' e (eqb tag x.tag) refl;
        })

-- A FIELD that may be left out, and is
module _ (x : Expected) (xs : List Expected) (fs : List Tagged) (rest : Text) (o : x.optional ≡ true) (n : has_tag x.tag rest ≡ false)
    (r : Reads xs fs rest) where
  absent_step : (tag at : ℕ) (book r' : Text) → drop at book ≡ rest ++ r' → (b : Bool) → eqb tag x.tag ≡ b
      → told book (pick (b && has_tag tag rest) (span (at + head_size) (size rest)) (value_from xs tag (at + 0) rest)) ≡ pick (b && false) (given []) (value_of_tag tag fs)
  absent_step tag at book r' e true q =
      rw (eqb-true tag x.tag q, n, add-zero) (r.values x.tag at book r' e)
  absent_step tag at book r' e false q = rw add-zero (r.values tag at book r' e)

  pub reads_none : Reads (x ∷ xs) (tagged x.tag [] ∷ fs) rest
  unfolding is_slip_from value_from value_of_tag
  reads_none =
      record {
        whole = rw (n, o) r.whole;
        values = λ tag at book r' e. rw n (absent_step tag at book r' e (eqb tag x.tag) refl);
      }

-- THE COUNT, and zeros to the slot's end
zeros : (n : ℕ) → every is_zero (replicate n 0) ≡ true
unfolding every
zeros zero = refl
zeros (suc n) = zeros n

module _ (n z : ℕ) (l : n ≤ greatest_count) where
  abbrev tail : Text
  tail = tag_bytes (tagged count_tag (two_bytes n)) ++ replicate z 0

  count-step : (tag at : ℕ) (book r' : Text) → drop at book ≡ tail ++ r' → (b : Bool)
      → told book (pick b (span (at + head_size) 2) none) ≡ pick (b && true) (given (two_bytes n)) (refused NoTag)
  count-step tag at book r' e true =
      let w : at + head_size + 2 - (at + head_size) ≡ 2 = omega arith in
      ap given
      (ap (λ (k : ℕ). take k (drop (at + head_size) book)) w ∙ (ap (take 2) (sym (drop-drop head_size at book)) ∙ ap (λ (t : Text). take 2 (drop head_size t)) e))
  count-step tag at book r' e false = refl

  pub reads-count : Reads [] (tagged count_tag (two_bytes n) ∷ []) tail
  unfolding is_slip_from value_from value_of_tag
  reads-count =
      record {
        whole = and_both (leb (n / 256 % 256 * 256 + n % 256) greatest_count) (every is_zero (replicate z 0)) (rw (two_bytes_lem n (omega arith)) (le-leb n greatest_count l)) (zeros z);
        values = λ tag at book r' e. count-step tag at book r' e (eqb tag count_tag);
      }
