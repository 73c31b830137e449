-- A demand is said with this.
-- DEMAND 3: A NEWER SENDER'S ADDITIONS ALTER NOTHING. Of a message that passes the eight frame checks everything that the table does not list is
-- struck out (`strike`). The user must be certain that what the definition of demand 2 gives for the struck message is what we
-- give for the message as it came: the verdict with its place and reason, the look-up answer at each listed place (of a text its bytes), the
-- reply for every stamp, reply number and buffer with what the buffer then holds, and the filing of every group in every slot and
-- book with what the book then holds, or the refusal of either.
use Rattle.std.specs.Prelude.{◌≡◌, ℕ, true, Result, Ok, Err}
use Rattle.std.specs.Borrow.{Bor}
use Rattle.text.specs.Bytes.{Text, within}
use Rattle.text.specs.Answer.{Answer, refused, given, tell}
use Rattle.text.specs.declared.refusal.Refusal.{Refusal}
use Rattle.frame.specs.Frame.{framed}
use Rattle.profile.specs.Table.{Table}
use Rattle.profile.specs.Profile.{profile01}
use Rattle.reader.specs.declared.Place as code
use Rattle.reader.specs.Found as code-found
use Rattle.reader.specs.declared.search.LookedUp.{LookedUp}
use Rattle.reader.specs.Place.{Place}
use Rattle.reader.specs.LookUp.{Found, text_from_to, look_up}
use Rattle.reader.specs.Fault.{checks, judge}
use Rattle.reader.specs.Told.{place_of}
use Rattle.reader.specs.Promise.{LooksUp, Judges}
use Rattle.reply.specs.Reply.{reply}
use Rattle.reply.specs.Promise.{Replies}
use Rattle.slip.specs.Book.{file}
use Rattle.slip.specs.Promise.{Files}
use Rattle.striking.specs.Strike.{is_listed_place, strike}
use Rattle.profile.specs.Fit.{fit, has_copies}
use Rattle.striking.specs.Striking.{NotEmpty}

-- a look-up's answer by its bytes, since striking moves the starts
pub data ByBytes : Type 0 where
  Empty : ByBytes
  Bytes : Text → ByBytes

-- so: what the definition finds, and what the entry hands back
abbrev pub shown_found : Text → Found → ByBytes
shown_found m Found.Empty = Empty
shown_found m (text_from_to a e) = Bytes (within a e m)

abbrev pub look_up_shown : Text → Place → Answer ByBytes
look_up_shown m p = tell (shown_found m) (look_up m p)

abbrev pub shown_by : Result code-found.Found Refusal → Text → Answer ByBytes
shown_by (Err r) t = refused r
shown_by (Ok code-found.TheVariants.Empty) t = given Empty
shown_by (Ok (code-found.TheVariants.Text s)) t = given (Bytes t)

abbrev pub handed_shown : LookedUp → Answer ByBytes
handed_shown r = shown_by r.sort r.text.now

-- THE SAME ANSWERS: what a call gives for the message as it came is what is promised for the struck one, and the two calls give and leave the same
pub record Same {R : Type 0} (came struck : R → Type 0) : Type 0 where
  pub as_struck : (r : R) → came r → struck r
  pub equal : (r s : R) → came r → struck s → r ≡ s

pub record SameAfter {R L : Type 0} (came struck : R → L → Type 0) : Type 0 where
  pub as_struck : (r : R) (after : L) → came r after → struck r after
  pub equal : (r s : R) (after after' : L) → came r after → struck s after' → (r ≡ s) × (after ≡ after')

-- the same for a look-up, whose answers are compared by their bytes
pub record SameShown (p : code.Place) (came struck : Bor Text) : Type 0 where
  pub as_struck : (r : LookedUp) → LooksUp came p r → handed_shown r ≡ look_up_shown struck.now (place_of p)
  pub equal : (r s : LookedUp) → LooksUp came p r → LooksUp struck p s → handed_shown r ≡ handed_shown s

-- NOTHING ALTERED BY THE DEFINITIONS: every check, broken or not, the verdict, the look-up at each listed place, every reply, every filing
pub record SameDefined (T : Table) (m : Text) : Type 0 where
  pub all-checks : checks T (strike T m) ≡ checks T m
  pub judges : judge T (strike T m) ≡ judge T m
  pub looks_up : (p : Place) → is_listed_place T m p ≡ true → look_up_shown (strike T m) p ≡ look_up_shown m p
  pub replies : (stamp number : Text) (room : ℕ) → reply T (strike T m) stamp number room ≡ reply T m stamp number room
  pub files : (group slot : ℕ) (book : Text) → file T (strike T m) group slot book ≡ file T m group slot book

-- NOTHING ALTERED: so also what the entries return, by the table, and what they leave
pub record Unmoved (T : Table) (m : Text) : Type 0 where
  pub frame : framed (strike T m) ≡ true
  pub defined : SameDefined T m
  pub judge : Same (Judges T m) (Judges T (strike T m))
  pub look_up :
      (came struck : Bor Text) → came.now ≡ m → struck.now ≡ strike T m
      → (p : code.Place) → is_listed_place T m (place_of p) ≡ true → SameShown p came struck
  pub reply :
      (stamp number before : Text) → SameAfter (Replies T m stamp number before) (Replies T (strike T m) stamp number before)
  pub file :
      (group slot : ℕ) (before : Text) → SameAfter (Files T m group slot before) (Files T (strike T m) group slot before)

-- DEMAND 3
pub record Demand3 : Type 0 where
  -- OVER ANY TABLE whose repetition numbers are from 1, which lists the field that names a type, and which has rows for OBX-2 and the
  -- leaves that replies and slips copy
  pub any_table : (T : Table) → fit T ≡ true → has_copies T ≡ true → (m : Text) → framed m ≡ true → Unmoved T m
  -- 01'S TABLE is one of them
  pub fits : (fit profile01 ≡ true) × (has_copies profile01 ≡ true)
  pub ours : (m : Text) → framed m ≡ true → Unmoved profile01 m
  -- AND STRIKING DOES SOMETHING
  pub not-empty : NotEmpty
