-- A filing changes its own slot and no other byte of the book.
use mathlib.Core.Path.{◌≡◌, refl, sym, ap, ◌∙◌}
use Prim.Native.Nat.{ℕ, ◌+◌, ◌-◌, ◌/◌, ◌≤◌, ◌<◌, min}
use native.Mathlib.Omega.{arith}
use mathlib.Core.Bool.{Bool, true, false, not}
use mathlib.Core.Logic.{◌⊎◌, inl, inr}
use mathlib.Core.List.{[], ◌∷◌, ◌++◌, append_assoc}
use lib.ListN.{length, get_or, take, drop, length-append, length-take, length-drop, get_or-append}
use lib.Seq.{length-take-le, take_at, take-take, drop_at, get_or-take, get_or-drop, get_or-append-add, ext_get_or}
use lib.Dec.{leb, ltb}
use borrow.Author.Tests.{ltb-true, ltb-false}
use Rattle.text.specs.Bytes.{Text, within}
use Rattle.text.specs.Answer.{Answer, refused, given, test, first, tell}
use Rattle.text.specs.declared.refusal.Refusal.TheVariants.{NoSlot, BadSlip, NoTag}
use Rattle.reader.proofs.Lying.{within-behind}
use Rattle.slip.specs.Slot.{slot_size, slot_start}
use Rattle.slip.specs.Book.{book_after}
use Rattle.book.specs.Read.{is_slip, expected, Part, value_from, is_none, or_nothing, slot, read_slip}
use Rattle.book.specs.RoundTrip.{read_bytes}
use Rattle.book.proofs.ValueLies.{Lies, slot-lies}

-- the book with a slip in slot k
abbrev pub filed : Text → Text → ℕ → Text
filed book slip k = book_after (given slip) k book

-- a reading goes by the book's length and by the slot's bytes
abbrev read_from : ℕ → Text → ℕ → ℕ → Answer Part
read_from n s j tag =
    first
    (test NoSlot (leb (n / slot_size) j)
    ∷ test BadSlip (not (is_slip s))
    ∷ test NoTag (is_none (value_from expected tag (slot_start j) s))
    ∷ [])
    (or_nothing (value_from expected tag (slot_start j) s))

-- a part that lies in a slot is told from the slot's bytes
slot-part : (book : Text) (j : ℕ) (p : Part) → Lies (slot_start j) (slot_start j + slot_size) p
    → within p.start p.end book ≡ take (p.end - p.start) (drop (p.start - slot_start j) (slot book j))
slot-part book j p l =
    let at : slot_start j + (p.start - slot_start j) ≡ p.start = omega (arith, l.0) in
    let size : slot_start j + slot_size - slot_start j ≡ slot_size = omega arith in
    sym (take-take (p.end - p.start) (slot_start j + slot_size - p.start) (drop p.start book) (omega (arith, l.1.1)))
    ∙ ap (take (p.end - p.start)) (rw (at, size) at (within-behind book (slot_start j) (slot_start j + slot_size) (p.start - slot_start j)))

module _ (book slip : Text) (k : ℕ) (w : length slip ≡ slot_size) (room : slot_start k + slot_size ≤ length book) where
  head-length : length (take (slot_start k) book) ≡ slot_start k
  head-length = length-take-le (slot_start k) book (omega arith)

  front_length : length (take (slot_start k) book ++ slip) ≡ slot_start k + slot_size
  front_length = length-append (take (slot_start k) book) slip ∙ omega (arith, head-length)

  pub filed-length : length (filed book slip k) ≡ length book
  filed-length =
      length-append (take (slot_start k) book ++ slip) (drop (slot_start k + slot_size) book)
      ∙ omega (arith, front_length, length-drop (slot_start k + slot_size) book)

  -- from the slot on, the book is the slip and what stood after the slot
  pub filed-from : drop (slot_start k) (filed book slip k) ≡ slip ++ drop (slot_start k + slot_size) book
  filed-from =
      ap (drop (slot_start k)) (append_assoc (take (slot_start k) book) slip (drop (slot_start k + slot_size) book))
      ∙ drop_at (take (slot_start k) book) (slip ++ drop (slot_start k + slot_size) book) (slot_start k) head-length

  -- the slot is the slip
  pub filed-slot : slot (filed book slip k) k ≡ slip
  filed-slot = ap (take slot_size) filed-from ∙ take_at slip (drop (slot_start k + slot_size) book) slot_size w

  -- every other byte is as it was
  byte-before : (i : ℕ) → i < slot_start k → get_or (filed book slip k) i 0 ≡ get_or book i 0
  byte-before i h =
      get_or-append (take (slot_start k) book ++ slip) (drop (slot_start k + slot_size) book) 0 i (omega (arith, front_length))
      ∙ (get_or-append (take (slot_start k) book) slip 0 i (omega (arith, head-length)) ∙ get_or-take (slot_start k) book i 0 h)

  byte-behind : (n : ℕ) → get_or (filed book slip k) (slot_start k + slot_size + n) 0 ≡ get_or book (slot_start k + slot_size + n) 0
  byte-behind n =
      ap (λ (i : ℕ). get_or (filed book slip k) (i + n) 0) (sym front_length)
      ∙ (get_or-append-add (take (slot_start k) book ++ slip) (drop (slot_start k + slot_size) book) n 0 ∙ get_or-drop (slot_start k + slot_size) book n 0)

  byte-elsewhere : (i : ℕ) → (i < slot_start k) ⊎ (slot_start k + slot_size ≤ i) → get_or (filed book slip k) i 0 ≡ get_or book i 0
  byte-elsewhere i (inl h) = byte-before i h
  byte-elsewhere i (inr h) =
      let e : slot_start k + slot_size + (i - (slot_start k + slot_size)) ≡ i = omega arith in
      rw e at (byte-behind (i - (slot_start k + slot_size)))

  -- and so is every other slot
  apart : (j i : ℕ) (b : Bool) → ltb j k ≡ b → (j ≡ k → ⊥) → i < slot_size → (slot_start j + i < slot_start k) ⊎ (slot_start k + slot_size ≤ slot_start j + i)
  apart j i true e n h = inl (omega (arith, ltb-true j k e))
  apart j i false e n h = inr (omega (arith, ltb-false j k e))

  pub filed-other : (j : ℕ) → (j ≡ k → ⊥) → slot (filed book slip k) j ≡ slot book j
  filed-other j n = ext_get_or 0 (slot (filed book slip k) j) (slot book j) widths bytes
    where
      after : Text
      after = filed book slip k

      width : (t : Text) → length (slot t j) ≡ min slot_size (length t - slot_start j)
      width t = simp (length-take, length-drop)

      widths : length (slot after j) ≡ length (slot book j)
      widths = width after ∙ (ap (λ (l : ℕ). min slot_size (l - slot_start j)) filed-length ∙ sym (width book))

      at : (t : Text) (i : ℕ) → i < slot_size → get_or (slot t j) i 0 ≡ get_or t (slot_start j + i) 0
      at t i h = get_or-take slot_size (drop (slot_start j) t) i 0 h ∙ get_or-drop (slot_start j) t i 0

      bytes : (i : ℕ) → i < length (slot after j) → get_or (slot after j) i 0 ≡ get_or (slot book j) i 0
      bytes i h =
          let l : i < slot_size = omega (arith, width after) in
          at after i l ∙ (byte-elsewhere (slot_start j + i) (apart j i (ltb j k) refl n l) ∙ sym (at book i l))

  -- which therefore reads as before
  pub filed-reads : (j tag : ℕ) → (j ≡ k → ⊥) → read_slip (filed book slip k) j tag ≡ read_slip book j tag
  unfolding read_slip
  filed-reads j tag n = λ i. read_from (filed-length i) (filed-other j n i) j tag

  -- and gives the bytes it gave
  bytes-step : (j tag : ℕ) → (j ≡ k → ⊥) → (a : Answer Part) → a ≡ read_slip book j tag
      → tell (λ (p : Part). within p.start p.end (filed book slip k)) a ≡ tell (λ (p : Part). within p.start p.end book) a
  bytes-step j tag n (refused r) e = refl
  bytes-step j tag n (given p) e =
      let l = (slot-lies book j tag p e).0 in
      ap given
      (slot-part (filed book slip k) j p l
      ∙ (ap (λ (s : Text). take (p.end - p.start) (drop (p.start - slot_start j) s)) (filed-other j n) ∙ sym (slot-part book j p l)))

  pub filed-bytes : (j tag : ℕ) → (j ≡ k → ⊥) → read_bytes (filed book slip k) j tag ≡ read_bytes book j tag
  filed-bytes j tag n =
      ap (λ (a : Answer Part). tell (λ (p : Part). within p.start p.end (filed book slip k)) a) (filed-reads j tag n)
      ∙ bytes-step j tag n (read_slip book j tag) refl

-- A FILING CHANGES NO OTHER BYTE
pub filed-elsewhere : (book slip : Text) (k i : ℕ) → length slip ≡ slot_size → slot_start k + slot_size ≤ length book → (i < slot_start k) ⊎ (slot_start k + slot_size ≤ i)
    → get_or (take (slot_start k) book ++ slip ++ drop (slot_start k + slot_size) book) i 0 ≡ get_or book i 0
filed-elsewhere book slip k i w room o = byte-elsewhere book slip k w room i o
