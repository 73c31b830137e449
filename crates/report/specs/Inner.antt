-- Inner: no entry's promise is made of this.
-- What only inner functions promise and ask for.
use Rattle.std.specs.Prelude.{ℕ, [], ◌∷◌, ◌++◌, Option, None, Some, Result, Ok, Err}
use Rattle.text.specs.Bytes.{Text, bytes, cr}
use Rattle.text.specs.Decimal.{decimal}
use Rattle.text.specs.declared.refusal.Refusal.{Refusal}
use Rattle.text.specs.Marks.{usual}
use Rattle.parts.specs.Split.{join, closed}
use Rattle.reader.specs.declared.Fault.{Fault}
use Rattle.reader.specs.Place.{Place}
use Rattle.reader.specs.Fault.{accepted, fault, condition}
use Rattle.reader.specs.Told.{place_of}
use Rattle.report.specs.Error.{code, condition_text, reply_err}

-- MSA up to the control number
abbrev pub code_of : Result (Option Fault) Refusal → Text
code_of (Err r) = []
code_of (Ok None) = bytes "MSA|" ++ code accepted ++ bytes "|"
code_of (Ok (Some f)) = bytes "MSA|" ++ code (fault (place_of f.place) f.reason) ++ bytes "|"

-- a condition, its text and its table
abbrev pub condition_words : ℕ → Text
condition_words n = join usual.component (decimal (condition n) ∷ condition_text (condition n) ∷ bytes "HL70357" ∷ [])

-- ERR with its CR
abbrev pub error_text : Place → ℕ → Text
error_text p n = closed cr (reply_err (fault p n))

abbrev pub error_of : Result (Option Fault) Refusal → Text
error_of (Err r) = []
error_of (Ok None) = []
error_of (Ok (Some f)) = error_text (place_of f.place) f.reason
