-- An entry's promise is made of this.
-- Escapes: \F\ \S\ \T\ \R\ \E\ are turned into the five separators, read from the left; a \ that begins none of these is a bad escape.
-- The separators are those of the marks q, and \ stands here for the one that is their escape character.
use Rattle.std.specs.Prelude.{ℕ, zero, suc, Bool, not, ◌&&◌, List, [], ◌∷◌, map, length, get_or, take, eqb, ltb}
use Prim.Native.String.{String}
use Rattle.text.specs.Bytes.{Text, pick, byte, same, some}
use Rattle.text.specs.Answer.{Answer, Test, test, first}
use Rattle.text.specs.declared.marks.Marks.{Marks}
use Rattle.text.specs.declared.refusal.Refusal.TheVariants.{NoRoom, BadEscape}

-- an escape: its letter, and the separator that it is turned into
pub record Escape : Type 0 where
  pub letter : ℕ
  pub separator : ℕ

abbrev pub ◌into◌ : String → ℕ → Escape
◌into◌ l s = record { letter = byte l; separator = s }

infix 60 ◌into◌
-- THE FIVE ESCAPES
abbrev pub five : Marks → List Escape
five q =
    ("F" into q.field)
    ∷ ("S" into q.component)
    ∷ ("T" into q.subcomponent)
    ∷ ("R" into q.repetition)
    ∷ ("E" into q.escape)
    ∷ []

-- the text begins with that escape: its first three bytes are \, the letter, and \ again
abbrev pub begins_with : Marks → Text → Escape → Bool
begins_with q t e = same (take 3 t) (q.escape ∷ e.letter ∷ q.escape ∷ [])

-- the text begins with one of the five
unfoldable pub is_escape : Marks → Text → Bool
is_escape q t = some (begins_with q t) (five q)

-- the first byte
abbrev pub first_byte : Text → ℕ
first_byte t = get_or t 0 0

-- the text begins with a \ that begins none of the five
abbrev pub is_bad : Marks → Text → Bool
is_bad q t = eqb (first_byte t) q.escape && not (is_escape q t)

-- what the text's beginning stands for: an escape for its separator, any other byte for itself
unfoldable pub stands_for : Marks → List Escape → Text → ℕ
stands_for q [] t = first_byte t
stands_for q (e ∷ es) t = pick (begins_with q t e) e.separator (stands_for q es t)

-- READ FROM THE LEFT: the text from each byte on at which the reader stops. The number says how many bytes are yet to be passed over: where
-- one of the five begins, the two after its first byte; else none.
unfoldable pub stops : Marks → ℕ → Text → List Text
stops q over [] = []
stops q (suc over) (b ∷ t) = stops q over t
stops q zero (b ∷ t) = (b ∷ t) ∷ stops q (pick (is_escape q (b ∷ t)) 2 0) t

-- A BAD ESCAPE: the reader stops at one
unfoldable pub bad_escape : Marks → Text → Bool
bad_escape q t = some (is_bad q) (stops q 0 t)

-- THE TEXT RESOLVED, where it has no bad escape: what each stop stands for
unfoldable pub resolved : Marks → Text → Text
resolved q t = map (stands_for q (five q)) (stops q 0 t)

-- TOO LONG: a limit is for the text that a person reads, so an escape counts one byte
abbrev pub too_long : Marks → ℕ → Text → Bool
too_long q limit t = ltb limit (length (resolved q t))

abbrev pub resolve_tests : Marks → Text → ℕ → List Test
resolve_tests q t room =
    test BadEscape (bad_escape q t) ∷ test NoRoom (ltb room (length (resolved q t))) ∷ []

-- RESOLVING into a lent buffer of that length: 20, then 14, or the bytes written
unfoldable pub resolve : Marks → Text → ℕ → Answer Text
resolve q t room = first (resolve_tests q t room) (resolved q t)
