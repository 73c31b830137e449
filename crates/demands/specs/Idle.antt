-- A demand is said with this.
-- THE FIVE IDLE BUILDS that 01 names, each at odds with one statement about what the entries promise.
use Rattle.std.specs.Prelude.{◌≡◌, ℕ, zero, suc, ◌+◌, ◌≤◌, false, ◌∷◌, ◌++◌, length, replicate, Option, None, Result, Ok}
use Rattle.std.specs.Borrow.{Bor}
use Rattle.text.specs.Bytes.{Text, bytes}
use Rattle.text.specs.Answer.{given}
use Rattle.frame.specs.Segments.{segments, of_name}
use Rattle.profile.specs.Profile.{profile01}
use Rattle.text.specs.declared.refusal.Refusal.{Refusal}
use Rattle.reader.specs.declared.Fault.{Fault}
use Rattle.reader.specs.Promise.{Judges}
use Rattle.slip.specs.Slot.{two_bytes, no_slot}
use Rattle.reader.specs.Observations.{observations_of}
use Rattle.slip.specs.Slip.{resolved_at}
use Rattle.slip.specs.Promise.{Files}
use Rattle.book.specs.declared.reading.SlipValue.{SlipValue}
use Rattle.book.specs.Read.{slot}
use Rattle.book.specs.RoundTrip.{handed_back}
use Rattle.book.specs.Promise.{ReadsSlip}
use Rattle.worked.specs.Messages.{two_orders}
use Rattle.worked.specs.Worked.{P1, P2, P3}

-- how many OBX and OBR a message has, and the counts of its groups 1 to n together
abbrev pub observations_in : Text → ℕ
observations_in m = length (of_name (bytes "OBX") (segments m))

abbrev pub groups : Text → ℕ
groups m = length (of_name (bytes "OBR") (segments m))

abbrev pub together : Text → ℕ → ℕ
together m zero = 0
together m (suc n) = observations_of m (suc n) + together m n

-- the slip of group 2 of `two_orders`: that group has its own OBR and one OBX
abbrev pub second_slip : Text
second_slip =
    (1 ∷ 0 ∷ 2 ∷ bytes "C7") ++ (2 ∷ 0 ∷ 3 ∷ bytes "A55") ++ (3 ∷ 0 ∷ 3 ∷ bytes "P&1") ++ (4 ∷ 0 ∷ 3 ∷ bytes "F10")
    ++ (5 ∷ 0 ∷ 7 ∷ bytes "54090-6") ++ (6 ∷ 0 ∷ 2 ∷ 0 ∷ 1 ∷ replicate 986 0)

-- each part has the name of the build that it shuts out
pub record ShutOut : Type 0 where
  -- REFUSES ALL MESSAGES: P1 is accepted
  pub refuses_all : (r : Result (Option Fault) Refusal) → Judges profile01 P1 r → r ≡ Ok None
  -- SAYS THE SAME FOR ALL: P1 and P2 have different verdicts
  pub says_the_same : (r s : Result (Option Fault) Refusal) → Judges profile01 P1 r → Judges profile01 P2 s → r ≡ s → ⊥
  -- FILES NOTHING: P1 is filed in every slot that a book has, and P3 then stands there
  pub files-nothing :
      (k : ℕ) (before after : Text) (r : Result Unit Refusal) → no_slot before k ≡ false → Files profile01 P1 1 k before r after
      → (r ≡ Ok tt) × (slot after k ≡ P3)
  -- FILES GROUP 1 FOR EACH GROUP: of every message the slip of group g has the number of its own OBR; and group 2 of one message, byte for byte
  pub files_group_one :
      (m : Text) (g k : ℕ) (before : Text) (book : Bor Text) → Files profile01 m g k before (Ok tt) book.now
      → (r : SlipValue) → ReadsSlip book k 4 r → handed_back r ≡ given (resolved_at m (bytes "OBR") g 3)
  pub group_two :
      (k : ℕ) (before after : Text) (r : Result Unit Refusal) → no_slot before k ≡ false → Files profile01 two_orders 2 k before r after
      → (r ≡ Ok tt) × (slot after k ≡ second_slip)
  -- INVENTS THE OBX COUNT: tag 6 is the count of the group's own OBX, at most 509; and the counts of all groups together are the
  -- message's OBX
  pub invents_a_count :
      (m : Text) (g k : ℕ) (before : Text) (book : Bor Text) → Files profile01 m g k before (Ok tt) book.now
      → (r : SlipValue) → ReadsSlip book k 6 r → (handed_back r ≡ given (two_bytes (observations_of m g))) × (observations_of m g ≤ 509)
  pub counts_all : (m : Text) → Judges profile01 m (Ok None) → together m (groups m) ≡ observations_in m
