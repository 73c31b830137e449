-- An entry's promise is made of this.
-- What looking up and judging promise.
use Rattle.std.specs.Prelude.{◌≡◌, Option, Result}
use Rattle.std.specs.Borrow.{Bor}
use Rattle.text.specs.Bytes.{Text}
use Rattle.reader.specs.declared.Place as code
use Rattle.profile.specs.Table.{Table}
use Rattle.reader.specs.declared.search.LookedUp.{LookedUp}
use Rattle.reader.specs.declared.Fault.{Fault}
use Rattle.text.specs.declared.refusal.Refusal.{Refusal}
use Rattle.checks.specs.LookUp.{look_up}
use Rattle.checks.specs.Fault.{judge}
use Rattle.reader.specs.Told.{place_of, found_of, verdict_of}
use Rattle.reader.specs.Part.{VeryPart, start_of, end_of}

-- LOOKING UP a place of the lent message m: the sort is the definition's answer, and the text is that very part of m
pub record LooksUp (m : Bor Text) (p : code.Place) (r : LookedUp) : Type 0 where
  pub sort : found_of r.sort ≡ look_up m.now (place_of p)
  pub text : VeryPart r.text m (start_of r.sort) (end_of r.sort)

-- JUDGING m by a table: what the answer tells is the definition's answer
abbrev pub Judges : Table → Text → Result (Option Fault) Refusal → Type 0
Judges T m r = verdict_of r ≡ judge T m
