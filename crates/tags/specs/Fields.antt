-- An entry's promise is made of this.
-- The fields of a slip: five of text, then the count, then zeros.
use Rattle.std.specs.Prelude.{ℕ, ◌+◌, ◌*◌, Bool, ◌&&◌, List, [], ◌∷◌, get_or, take, drop, eqb, leb}
use Rattle.text.specs.Bytes.{Text, pick, printable, every}
use Rattle.text.specs.Ranges.{◌to◌, is_within}

-- the tags that are not like the others: the control number's value is shorter, the placer's number may be left out, the count is no text
abbrev pub control_tag : ℕ
control_tag = 1

abbrev pub placer_tag : ℕ
placer_tag = 3

abbrev pub count_tag : ℕ
count_tag = 6

-- the greatest length of the control number, of any other text, and the greatest count
abbrev pub longest_control : ℕ
longest_control = 20

abbrev pub longest_text : ℕ
longest_text = 199

abbrev pub greatest_count : ℕ
greatest_count = 509

-- bytes of a tag and a length, which stand before every value; of the count with them
abbrev pub head_size : ℕ
head_size = 3

abbrev pub count_size : ℕ
count_size = head_size + 2

-- what stands after its tag at the head of a text: a two-byte length, high byte first, then the value
abbrev pub size : Text → ℕ
size t = get_or t 1 0 * 256 + get_or t 2 0

abbrev pub value : Text → Text
value t = take (size t) (drop head_size t)

abbrev pub has_tag : ℕ → Text → Bool
has_tag k t = eqb (get_or t 0 0) k

-- a text field of a slip: its tag, its greatest length, and whether it may be left out
pub record Expected : Type 0 where
  pub tag : ℕ
  pub most : ℕ
  pub optional : Bool

abbrev pub expect : ℕ → ℕ → Bool → Expected
expect k n b = record { tag = k; most = n; optional = b }

-- 20 bytes (tag 1) or 199
abbrev pub most_of : ℕ → ℕ
most_of k = pick (eqb k control_tag) longest_control longest_text

-- tag 3 may be left out
abbrev pub expected_of : ℕ → Expected
expected_of k = expect k (most_of k) (eqb k placer_tag)

-- it stands there as it should, or is left out as it may be
abbrev pub is_there : Expected → Text → Bool
is_there x t =
    pick (has_tag x.tag t) (is_within (1 to x.most) (size t) && every printable (value t)) x.optional

-- how many bytes it takes
abbrev pub taken : Expected → Text → ℕ
taken x t = pick (has_tag x.tag t) (head_size + size t) 0

-- the count: tag 6, two bytes, 0 to 509
abbrev pub is_count : Text → Bool
is_count t = has_tag count_tag t && eqb (size t) 2 && leb (get_or t 3 0 * 256 + get_or t 4 0) greatest_count

abbrev pub is_zero : ℕ → Bool
is_zero b = eqb b 0

-- those fields in order, then the count, then zeros
unfoldable pub is_slip_from : List Expected → Text → Bool
is_slip_from [] t = is_count t && every is_zero (drop count_size t)
is_slip_from (x ∷ xs) t = is_there x t && is_slip_from xs (drop (taken x t) t)
