-- Inner: no entry's promise is made of this.
-- The lists of codes as the machine's table has them, between the index of the rows and the rows.
use Rattle.std.specs.Prelude.{ℕ, zero, suc, ◌+◌, ◌/◌, ◌%◌, ◌≡◌, Bool, true, ◌&&◌, List, [], ◌∷◌, length, get_or, drop, eqb, leb, ltb}
use Rattle.text.specs.Bytes.{Text, within}
use Rattle.profile.specs.Numbers.{no_type, code_lists, begin}

-- a code has 1 to 20 bytes
abbrev pub longest_code : ℕ
longest_code = 20

-- A CODE is a number for each of its bytes. The first of them is that byte, and 256 for each byte that follows it
abbrev pub leading_byte : ℕ → ℕ
leading_byte x = x % 256

abbrev pub following : ℕ → ℕ
following x = x / 256

-- the first text with a byte in front of it
abbrev pub with_first : ℕ → List Text → List Text
with_first b [] = []
with_first b (t ∷ ts) = (b ∷ t) ∷ ts

-- the n numbers that still belong to a code, and the codes after them
unfoldable pub codes_behind : ℕ → List ℕ → List Text
codes_behind n [] = [] ∷ []
codes_behind zero (x ∷ xs) = [] ∷ with_first (leading_byte x) (codes_behind (following x) xs)
codes_behind (suc n) (x ∷ xs) = with_first x (codes_behind n xs)

-- THE CODES that numbers are
abbrev pub codes_from : List ℕ → List Text
codes_from xs = drop 1 (codes_behind 0 xs)

-- no code is too long, what follows its first byte are bytes, and the last code is not cut off
unfoldable pub are_whole : ℕ → List ℕ → Bool
are_whole n [] = eqb n 0
are_whole zero (x ∷ xs) = ltb (following x) longest_code && are_whole (following x) xs
are_whole (suc n) (x ∷ xs) = ltb x 256 && are_whole n xs

abbrev pub are_codes : List ℕ → Bool
are_codes xs = are_whole 0 xs

-- THE LISTS: how many there are, where the codes of each begin and the last ones end, and the codes. Places are counted within these numbers
abbrev pub list_count : List ℕ → ℕ
list_count lists = get_or lists 0 0

abbrev pub list_at : List ℕ → ℕ → List ℕ
list_at lists n = within (get_or lists n 0) (get_or lists (suc n) 0) lists

-- k lists, the first of them with number n
unfoldable pub lists_from : ℕ → ℕ → List ℕ → List (List Text)
lists_from n zero lists = []
lists_from n (suc k) lists = codes_from (list_at lists n) ∷ lists_from (suc n) k lists

abbrev pub is_whole_list : List ℕ → ℕ → Bool
is_whole_list lists n = leb (get_or lists (suc n) 0) (length lists) && are_codes (list_at lists n)

unfoldable pub are_whole_lists : ℕ → ℕ → List ℕ → Bool
are_whole_lists n zero lists = true
are_whole_lists n (suc k) lists = is_whole_list lists n && are_whole_lists (suc n) k lists

-- the numbers are 01's lists
pub record AreLists (lists : List ℕ) : Type 0 where
  pub inside : ltb (suc (list_count lists)) (length lists) ≡ true
  pub whole : are_whole_lists 1 (list_count lists) lists ≡ true
  pub are : lists_from 1 (list_count lists) lists ≡ code_lists

-- where they stand in a table: after the index of the rows, and before the first rows
abbrev pub lists_begin : ℕ
lists_begin = no_type + 2

abbrev pub lists_in : List ℕ → List ℕ
lists_in table = within lists_begin (begin table 1) table

pub record HasLists (table : List ℕ) : Type 0 where
  pub inside : leb (begin table 1) (length table) ≡ true
  pub lists : AreLists (lists_in table)
