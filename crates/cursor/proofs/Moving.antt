-- Going from piece to piece: a cursor is told by where it stands, and so is the next one.
use mathlib.Core.Path.{◌≡◌, refl, sym, ap}
use Prim.Native.Nat.{ℕ, zero, suc, ◌+◌, ◌-◌, ◌≤◌, ◌<◌}
use native.Mathlib.Nat.{suc-add, zero-add}
use native.Mathlib.Numerals.{add-one}
use native.Mathlib.Omega.{arith}
use mathlib.Core.Bool.{Bool, true, false}
use mathlib.Core.List.{[], ◌∷◌}
use lib.ListN.{length, get_or, drop}
use lib.Dec.{eqb}
use Rattle.text.specs.Bytes.{Text, pick, within}
use Rattle.cursor.specs.declared.Cursor.{Cursor}
use Rattle.parts.specs.Split.{front, split, piece}
use Rattle.parts.specs.Start.{before, reach}
use Rattle.cursor.specs.Cursor.{IsPiece}
use Rattle.parts.proofs.Split.{later-step, piece_le, before_le, before-first}
use Rattle.parts.proofs.Descent.{within-piece}
use Rattle.parts.proofs.Reach.{first-length, reach-end, end-inside, before_on, before-end}

-- what a user of a cursor needs: it lies in the text, and the bytes that it spans are its piece
module _ (sep : ℕ) (t : Text) (c : Cursor) (h : IsPiece sep t c) where
  pub cursor-inside : (c.start ≤ c.end) × (c.end ≤ length t)
  cursor-inside = (omega (arith, h.ends), omega (arith, h.starts, h.ends, piece_le sep c.number t))

  pub cursor-text : within c.start c.end t ≡ piece c.number (split sep t)
  cursor-text = within-piece t sep c.number c.start c.end h.starts h.ends

abbrev pub cursor : ℕ → ℕ → ℕ → Cursor
cursor n a e = record { number = n; start = a; end = e }

module _ (sep : ℕ) where
  -- a piece ends before the next separator
  reach_step : (b : ℕ) (t : Text) (c : Bool) (i : ℕ) → ((j : ℕ) → length (get_or (split sep t) j []) ≡ reach sep (drop (before sep t j) t))
      → length (get_or (front c b (split sep t)) (suc i) []) ≡ reach sep (drop (before sep t (pick c i (suc i))) t)
  reach_step b t true i ih = ih i
  reach_step b t false i ih = rw (later-step b i (split sep t)) (ih (suc i))

  none : (i : ℕ) → get_or {A = Text} ([] ∷ []) i [] ≡ []
  none zero = refl
  none (suc i) = refl

  piece-reach : (t : Text) (i : ℕ) → length (get_or (split sep t) i []) ≡ reach sep (drop (before sep t i) t)
  unfolding split before reach
  piece-reach [] i = ap length (none i)
  piece-reach (b ∷ t) zero = first-length sep (b ∷ t)
  piece-reach (b ∷ t) (suc i) = reach_step b t (eqb b sep) i (piece-reach t)

  -- where the pieces stand that come after one, told from there
  before-step : (t : Text) (c : Bool) (i j : ℕ)
      → ((k : ℕ) → before sep t k + before sep (drop (before sep t k) t) j ≡ before sep t (k + j))
      → suc (before sep t (pick c i (suc i))) + before sep (drop (before sep t (pick c i (suc i))) t) j ≡ suc (before sep t (pick c (i + j) (suc (i + j))))
  before-step t true i j ih = omega (arith, ih i)
  before-step t false i j ih = omega (arith, rw (suc-add i j) at (ih (suc i)))

  before-left : (t : Text) (i j : ℕ) → before sep t i + before sep (drop (before sep t i) t) j ≡ before sep t (i + j)
  unfolding before
  before-left [] i j = refl
  before-left (b ∷ t) zero j = rw (zero-add j, zero-add (before sep (b ∷ t) j))
  before-left (b ∷ t) (suc i) j = rw (suc-add i j) (before-step t (eqb b sep) i j (λ k. before-left t k j))

  module _ (t : Text) where
    placed : (i a e : ℕ) → a ≡ before sep t i → e ≡ a + reach sep (drop a t) → IsPiece sep t (cursor (suc i) a e)
    placed i a e s f = record { from = omega arith; starts = s; ends = rw (piece-reach t i, ← s) f }

    pub cursor-first : (e : ℕ) → e ≡ 0 + reach sep (drop 0 t) → IsPiece sep t (cursor 1 0 e)
    cursor-first e f = placed 0 0 e (sym (before-first sep t)) f

    module _ (i a e : ℕ) (h : IsPiece sep t (cursor (suc i) a e)) where
      inside : a ≤ length t
      inside = omega (arith, h.starts, before_le sep t i)

      reaches : e ≡ a + reach sep (drop a t)
      reaches = rw (h.starts, ← piece-reach t i) (rw h.starts at h.ends)

      next_start : e < length t → e + 1 ≡ before sep t (suc i)
      next_start more =
          omega (arith, before_on sep t a e inside reaches more 0, before-first sep (drop (e + 1) t), rw (← h.starts, add-one) at (before-left t i 1))

      past_start : (j : ℕ) → i < j → length t ≤ e → e ≡ before sep t j
      past_start j l none =
          let n : i + suc (j - suc i) ≡ j = omega arith in
          omega (arith, before-end sep t a e inside reaches none (j - suc i), end-inside sep t a e inside reaches, rw (← h.starts, n) at (before-left t i (suc (j - suc i))))

    -- a piece further
    pub cursor-on : (k a e f : ℕ) → IsPiece sep t (cursor k a e) → e < length t → f ≡ e + 1 + reach sep (drop (e + 1) t)
        → IsPiece sep t (cursor (k + 1) (e + 1) f)
    cursor-on zero a e f h more g = absurd (omega (arith, h.from))
    cursor-on (suc i) a e f h more g = rw add-one (placed (suc i) (e + 1) f (next_start i a e h more) g)

    -- none is left
    pub cursor_past : (k a e n : ℕ) → IsPiece sep t (cursor k a e) → k < n → length t ≤ e → IsPiece sep t (cursor n e e)
    cursor_past zero a e n h l none = absurd (omega (arith, h.from))
    cursor_past (suc i) a e zero h l none = absurd (omega arith)
    cursor_past (suc i) a e (suc j) h l none = placed j e e (past_start i a e h j (omega arith) none) (omega (arith, reach-end sep t e none))
