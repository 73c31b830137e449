-- An entry's promise is made of this.
-- Reading a slip: 17 to 19, or the tag's value as that part of the book.
use Rattle.std.specs.Prelude.{ℕ, ◌+◌, Bool, true, false, not, ◌&&◌, List, [], ◌∷◌, map, take, drop, eqb}
use Rattle.std.proofs.Math.Option.{Option, none, some}
use Rattle.text.specs.Bytes.{Text, pick}
use Rattle.text.specs.Answer.{Answer, Test, test, first}
use Rattle.text.specs.declared.refusal.Refusal.TheVariants.{NoSlot, BadSlip, NoTag}
use Rattle.tags.specs.Fields.{count_tag, head_size, Expected, size, has_tag, expected_of, taken}
unfoldable pub use Rattle.tags.specs.Fields.{is_slip_from}
use Rattle.slip.specs.Slot.{slot_size, slot_start, no_slot}

-- the five fields of text, in their order
abbrev pub expected : List Expected
expected = map expected_of (1 ∷ 2 ∷ 3 ∷ 4 ∷ 5 ∷ [])

-- A SLIP
abbrev pub is_slip : Text → Bool
is_slip t = is_slip_from expected t

-- a part of the book
pub record Part : Type 0 where
  pub start : ℕ
  pub end : ℕ

abbrev pub span : ℕ → ℕ → Option Part
span k n = some (record { start = k; end = k + n })

-- where the value of a tag lies in a slip that begins at k
unfoldable pub value_from : List Expected → ℕ → ℕ → Text → Option Part
value_from [] tag k t = pick (eqb tag count_tag) (span (k + head_size) 2) none
value_from (x ∷ xs) tag k t =
    pick (eqb tag x.tag && has_tag tag t) (span (k + head_size) (size t))
    (value_from xs tag (k + taken x t) (drop (taken x t) t))

abbrev pub is_none : {A : Type 0} → Option A → Bool
is_none none = true
is_none (some a) = false

abbrev pub or_nothing : Option Part → Part
or_nothing none = record { start = 0; end = 0 }
or_nothing (some p) = p

abbrev pub slot : Text → ℕ → Text
slot book k = take slot_size (drop (slot_start k) book)

-- the tests of a slot that begins at `base` of the book, and the one before them
abbrev pub slip_tests : Text → ℕ → ℕ → List Test
slip_tests s base tag =
    -- 18 BAD SLIP: slot isn't a slip
    test BadSlip (not (is_slip s))
    -- 19 NO TAG: that tag isn't in the slip
    ∷ test NoTag (is_none (value_from expected tag base s))
    ∷ []

abbrev pub read_tests : Text → ℕ → ℕ → List Test
read_tests book k tag =
    -- 17 NO SLOT: slot k (from 0) isn't below book length divided by 1,024, rounded down
    test NoSlot (no_slot book k)
    -- 18, 19
    ∷ slip_tests (slot book k) (slot_start k) tag

-- READING a tag of the slip in slot k
unfoldable pub read_slip : Text → ℕ → ℕ → Answer Part
read_slip book k tag =
    first (read_tests book k tag) (or_nothing (value_from expected tag (slot_start k) (slot book k)))
