-- The verdict is made of where reading stopped.
use mathlib.Core.Path.{◌≡◌, sym, ap, ◌∙◌}
use Prim.Native.Nat.{ℕ, suc, ◌+◌}
use native.Mathlib.Numerals.{add-one}
use mathlib.Core.List.{List, [], ◌∷◌}
use lib.ListN.{get_or}
use Rattle.std.proofs.Common.{Option, None, Some, Result, Ok, Err}
use Rattle.std.specs.Result.{result_err}
use Rattle.text.specs.Bytes.{Text, within}
use Rattle.text.specs.declared.marks.Marks.{Marks}
use Rattle.text.specs.Marks.{marks_of}
use Rattle.frame.specs.Segments.{name}
use Rattle.profile.specs.Numbers.{segment_number, table_of}
use Rattle.reader.specs.declared.Fault.{Fault}
use Rattle.segments.specs.declared.Finding.{Finding}
use Rattle.walk.specs.declared.Halt.{Halt}
use Rattle.checks.specs.Place.{place}
use Rattle.checks.specs.Fault.{accepted, fault}
use Rattle.checks.specs.Reasons.{number_of_reason}
use Rattle.checks.specs.declared.reasons.Reason.TheVariants as reason
use Rattle.walk.specs.declared.Why.TheVariants as why
use Rattle.reader.specs.Told.{verdict_told}
use Rattle.segments.specs.Judged.{told_at, at_repetition, ReadsSegment}
use Rattle.listing.specs.Listing.{name_at, count_before, HasNumber, Here}
use Rattle.walk.specs.Judged.{number_at, halt_verdict}
use Rattle.walk.proofs.Walking.{named-there, named-inside, three-bytes}

-- the number of the name that stands there
pub number-there : (m : Text) (start end k : ℕ) → Here m start end (number_at m start end)
    → k ≡ segment_number (get_or m start 0 ∷ get_or m (start + 1) 0 ∷ get_or m (start + 2) 0 ∷ []) → HasNumber (within start end m) k
number-there m start end k h e =
    let a : number_at m start end ≡ k =
    ap segment_number (sym (named-there m start end (number_at m start end) h) ∙ three-bytes m start (named-inside m start end (number_at m start end) h))
    ∙ sym e in
    (a, rw (← a) h.number.1)

module _ (table : List ℕ) (m : Text) (h : Halt) where
  abbrev x : Text
  x = name (within h.start h.end m)

  abbrev o : ℕ
  o = suc (count_before m h.start x)

  -- what is found, told of that segment, is the verdict where reading stopped
  abbrev pub IsVerdict : Result Unit Finding → Type 0
  IsVerdict r = told_at x o r ≡ halt_verdict (table_of table) m h

  pub place-verdict : h.why ≡ why.OutOfPlace → IsVerdict (Err (at_repetition reason.OutOfPlace 0 0))
  place-verdict e = rw e

  pub end-verdict : h.why ≡ why.MayNotEnd → IsVerdict (Err (at_repetition reason.MayNotEnd 0 0))
  end-verdict e = rw e

  -- what reading the segment finds
  module _ (broken : h.why ≡ why.FieldBroken) (q : Marks) (is : q ≡ marks_of m) where
    pub field-verdict : (r : Result Unit Finding) → ReadsSegment q (table_of table) (within h.start h.end m) r → (f : Finding) → result_err r ≡ Some f → IsVerdict (Err f)
    field-verdict (Ok u) read f e = cc
    field-verdict (Err g) read f e = let same : g ≡ f = cc in rw (broken, ← is, ← same) (read x o)

    pub field-good : (r : Result Unit Finding) → ReadsSegment q (table_of table) (within h.start h.end m) r → result_err r ≡ None → accepted ≡ halt_verdict (table_of table) m h
    field-good (Ok u) read e = rw (broken, ← is) (read x o)
    field-good (Err g) read e = cc

  pub halted_fault : (r : Finding) → IsVerdict (Err r) → Here m h.start h.end (number_at m h.start h.end) → (v : Option Fault)
      → verdict_told v
      ≡ fault (place (name_at m h.start) (count_before m h.start (name_at m h.start) + 1) r.field r.repetition r.component r.subcomponent) (number_of_reason r.reason)
      → verdict_told v ≡ halt_verdict (table_of table) m h
  halted_fault r is here v f = f ∙ rw (named-there m h.start h.end (number_at m h.start h.end) here, add-one) is
