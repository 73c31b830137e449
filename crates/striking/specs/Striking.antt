-- A demand is said with this.
-- WHAT STRIKING DOES, so that demand 3 is not empty: what the table lists stays, all else goes, and the separators around it stay.
use Rattle.std.specs.Prelude.{◌≡◌, ℕ, Bool, true, false, ◌&&◌, List, [], ◌∷◌, map, length, take, ltb}
use Rattle.text.specs.Bytes.{Text, bytes, same}
use Rattle.text.specs.declared.marks.Marks.{Marks}
use Rattle.text.specs.Marks.{marks_of}
use Rattle.parts.specs.Split.{split, piece}
use Rattle.frame.specs.Segments.{segments, name, field, unsplit, occurrence}
use Rattle.frame.specs.Frame.{framed}
use Rattle.profile.specs.Table.{Table, is_listed}
use Rattle.profile.specs.Profile.{profile01}
use Rattle.reader.specs.Place.{Place, text_at}
use Rattle.reader.specs.View.{listed_segments}
use Rattle.worked.specs.Messages.{message, msh, pid, obr, M, with_msh, with_pid, with_obx}
use Rattle.worked.specs.Worked.{Example, ◌says◌, AllHold, P5, P6}
use Rattle.striking.specs.Strike.{has_component, has_field, field_leaves, is_listed_place, strike}

-- the header's first nine bytes are its name, MSH-1, MSH-2 and a separator
abbrev pub in_first_nine : Place → Bool
in_first_nine p = same p.name (bytes "MSH") && ltb p.field 3

-- into how many pieces a separator cuts a text
abbrev pub pieces : ℕ → Text → ℕ
pieces sep t = length (split sep t)

-- repetition r of field f of a segment, and component c of it
abbrev pub repetition_of : Marks → Text → ℕ → ℕ → Text
repetition_of q s f r = piece r (split q.repetition (field q s f))

abbrev pub component_of : Marks → Text → ℕ → ℕ → ℕ → Text
component_of q s f r c = piece c (split q.component (repetition_of q s f r))

-- WHAT IS LEFT of a segment: it has as many fields; a listed field as many repetitions, and each of these as many components; a listed
-- component as many subcomponents. An unlisted field and an unlisted component have no bytes left; MSH-1 and MSH-2 are unsplit, and stay
pub record WhatIsLeft (T : Table) (q : Marks) (s left : Text) : Type 0 where
  pub fields : pieces q.field left ≡ pieces q.field s
  pub repetitions :
      (f : ℕ) → has_field T (name s) f ≡ true → pieces q.repetition (field q left f) ≡ pieces q.repetition (field q s f)
  pub components :
      (f r : ℕ) → has_field T (name s) f ≡ true
      → pieces q.component (repetition_of q left f r) ≡ pieces q.component (repetition_of q s f r)
  pub subcomponents :
      (f r c : ℕ) → has_component (field_leaves T q s f) c ≡ true
      → pieces q.subcomponent (component_of q left f r c) ≡ pieces q.subcomponent (component_of q s f r c)
  pub no_field : (f : ℕ) → unsplit s f ≡ false → has_field T (name s) f ≡ false → field q left f ≡ []
  pub no_component :
      (f r c : ℕ) → unsplit s f ≡ false → has_component (field_leaves T q s f) c ≡ false → component_of q left f r c ≡ []

-- WHAT STRIKING DOES to a message with a good frame, by a table
pub record Striking (T : Table) (m : Text) : Type 0 where
  -- the first nine bytes stay
  pub nine : take 9 (strike T m) ≡ take 9 m
  -- the segments that are left are the listed ones, in their order
  pub segments-left : map name (segments (strike T m)) ≡ map name (listed_segments T m)
  -- each of them keeps the separators around what is struck
  pub separators :
      (n : Text) (o : ℕ) → is_listed T n ≡ true → WhatIsLeft T (marks_of m) (occurrence m n o) (occurrence (strike T m) n o)
  -- NO LISTED PLACE is struck
  pub listed : (p : Place) → is_listed_place T m p ≡ true → text_at (strike T m) p ≡ text_at m p
  -- EVERY UNLISTED ONE is, beyond the first nine bytes
  pub unlisted : (p : Place) → is_listed_place T m p ≡ false → in_first_nine p ≡ false → text_at (strike T m) p ≡ []

-- BY EXAMPLE
unfoldable pub striking_examples : List Example
striking_examples =
    -- a segment goes (P5), a component (P6), a subcomponent, a field; and of M nothing
    (strike profile01 P5 says M)
    ∷ (strike profile01 P6 says with_obx "OBX|1|NM|45222-7^C4-DC^LN||3.16^|umol/L|||||F")
    ∷ (strike profile01 (with_pid "PID|1||A55&x||LANE||2024") says with_pid "PID|1||A55&||LANE||2024")
    ∷ (strike profile01 (with_pid "PID|1|x|A55||LANE||2024") says with_pid "PID|1||A55||LANE||2024")
    ∷ (strike profile01 M says M)
    -- all at once: inner separators go with an unlisted field, and stay in a listed one
    ∷ (strike profile01 (with_pid "PID|1&x|a~b^c|A55^9^x&y^NHS&1&ISO&z^MR^w~B^1|q|LANE^J^^^y&z||2024")
    says with_pid "PID|1&||A55^^^NHS&1&ISO&^MR^~B^||LANE^J^^^||2024")
    -- OBX-5 by its own OBX-2: of two OBX, each by its own
    ∷ (strike profile01 (message (msh ∷ pid ∷ obr ∷ "OBX|1|ST|1||>^1" ∷ "OBX|2|SN|1||>^1" ∷ []))
    says message (msh ∷ pid ∷ obr ∷ "OBX|1|ST|1||>^" ∷ "OBX|2|SN|1||>^1" ∷ []))
    ∷ (strike profile01 (with_obx "OBX|1|SN|1||>^1^-^2^x") says with_obx "OBX|1|SN|1||>^1^-^2^")
    ∷ (strike profile01 (with_obx "OBX|1|ST|1||>^1^-^2^x") says with_obx "OBX|1|ST|1||>^^^^")
    ∷ (strike profile01 (with_obx "OBX|1|XX|1||>^1^-^2^x") says with_obx "OBX|1|XX|1||>^^^^")
    -- the header's first nine bytes stay
    ∷ (strike profile01 (with_msh "MSH|^~\\&|A^b^c^d|||||sec|ORU^R01^X^y|C7||2.5.1^USA|12")
    says with_msh "MSH|^~\\&|A^b^c^||||||ORU^R01^X^|C7||2.5.1^|")
    ∷ []

-- SO DEMAND 3 IS NOT EMPTY
pub record NotEmpty : Type 0 where
  -- by any table that names MSH, and by 01's
  pub any_table : (T : Table) → is_listed T (bytes "MSH") ≡ true → (m : Text) → framed m ≡ true → Striking T m
  pub ours : (m : Text) → framed m ≡ true → Striking profile01 m
  -- the examples; and P5's and P6's messages become others
  pub examples : AllHold striking_examples
  pub p5_changes : strike profile01 P5 ≡ P5 → ⊥
  pub p6_changes : strike profile01 P6 ≡ P6 → ⊥
