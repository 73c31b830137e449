-- An entry's promise is made of this.
-- The very part of lent bytes: what they are, and where they lie.
use Rattle.std.specs.Prelude.{ℕ, ◌+◌, ◌≡◌}
use Rattle.std.specs.Borrow.{Bor}
use Rattle.text.specs.Bytes.{Text, within}

-- r is the part of the whole from a up to e: the same block of memory, a bytes further on. (A reference also has a ghost name, which nothing that runs can see.)
pub record VeryPart (r whole : Bor Text) (a e : ℕ) : Type 0 where
  pub bytes : r.now ≡ within a e whole.now
  pub block : r.ref_ptr.0 ≡ whole.ref_ptr.0
  pub offset : r.ref_ptr.1 ≡ whole.ref_ptr.1 + a

-- two such parts of one whole: the same bytes, in the same block, from the same byte on
pub record SamePart (r s : Bor Text) : Type 0 where
  pub bytes : r.now ≡ s.now
  pub block : r.ref_ptr.0 ≡ s.ref_ptr.0
  pub offset : r.ref_ptr.1 ≡ s.ref_ptr.1
