-- A demand is said with this.
-- THE ROUND TRIP. After a filing, reading a tag of that slot gives the value that was filed, and every other slot reads as before.
use Rattle.std.specs.Prelude.{ℕ, ◌≡◌, not, ◌&&◌, List, [], ◌∷◌, eqb}
use Rattle.text.specs.Bytes.{Text, pick, empty, within}
use Rattle.text.specs.Answer.{Answer, refused, given, tell}
use Rattle.text.specs.declared.refusal.Refusal.TheVariants.{NoTag}
use Rattle.profile.specs.Table.{Table}
use Rattle.book.specs.declared.reading.SlipValue.{SlipValue}
use Rattle.slip.specs.Slot.{Tagged}
use Rattle.slip.specs.Slip.{slip_values}
use Rattle.slip.specs.Book.{file, book_after}
use Rattle.book.specs.Read.{Part, slot, read_slip}
use Rattle.book.specs.Told.{value_of}

-- what reading a tag of slot k gives, by its bytes
abbrev pub read_bytes : Text → ℕ → ℕ → Answer Text
read_bytes book k tag = tell (λ (p : Part). within p.start p.end book) (read_slip book k tag)

-- the value of a tag among a slip's values: NO TAG where there is none, or where it is Empty
unfoldable pub value_of_tag : ℕ → List Tagged → Answer Text
value_of_tag tag [] = refused NoTag
value_of_tag tag (f ∷ fs) = pick (eqb tag f.tag && not (empty f.value)) (given f.value) (value_of_tag tag fs)

-- the book after group g of m was filed in slot k
abbrev pub afterwards : Table → Text → ℕ → ℕ → Text → Text
afterwards T m g k book = book_after (file T m g k book) k book

pub record RoundTrip (T : Table) (m : Text) (g k : ℕ) (book : Text) : Type 0 where
  pub own : (tag : ℕ) → read_bytes (afterwards T m g k book) k tag ≡ value_of_tag tag (slip_values m g)
  pub others : (j tag : ℕ) → (j ≡ k → ⊥) → read_slip (afterwards T m g k book) j tag ≡ read_slip book j tag
  -- and each of their tags gives the bytes it gave
  pub values : (j tag : ℕ) → (j ≡ k → ⊥) → read_bytes (afterwards T m g k book) j tag ≡ read_bytes book j tag
  pub bytes : (j : ℕ) → (j ≡ k → ⊥) → slot (afterwards T m g k book) j ≡ slot book j

-- what `read_slip` hands back, by its bytes
abbrev pub handed_back : SlipValue → Answer Text
handed_back r = tell (λ (p : Part). r.value.now) (value_of r.sort)
