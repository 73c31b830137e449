-- Inner: no entry's promise is made of this.
-- What reading a field promises.
use Rattle.std.specs.Prelude.{ℕ, ◌+◌, ◌≤◌, ◌≡◌, true, false, Option, None, Some, drop}
use Rattle.text.specs.Bytes.{Text}
use Rattle.tags.specs.Fields.{head_size, longest_text, expected_of, is_there, taken}

-- bytes of the longest field
abbrev pub longest_field : ℕ
longest_field = head_size + longest_text

-- a field as it stands at a place of a slip: bad, or it ends there
abbrev pub ReadsTag : Text → ℕ → ℕ → Option ℕ → Type 0
ReadsTag s at k None = is_there (expected_of k) (drop at s) ≡ false
ReadsTag s at k (Some e) =
    (is_there (expected_of k) (drop at s) ≡ true) × ((e ≡ at + taken (expected_of k) (drop at s)) × (e ≤ at + longest_field))
