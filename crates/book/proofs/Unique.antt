-- What a reading promises leaves one answer.
use Prim.Native.Nat.{ℕ}
use mathlib.Core.Path.{◌≡◌, sym, ◌∙◌}
use denote.Ref.{Bor}
use Rattle.text.specs.Bytes.{Text}
use Rattle.text.specs.Part.{SamePart}
use Rattle.text.proofs.SamePart.{part_same}
use Rattle.std.proofs.Common.{Result, Ok, Err}
use Rattle.text.specs.declared.refusal.Refusal.{Refusal}
use Rattle.text.specs.declared.span.Span.{Span}
use Rattle.book.specs.declared.reading.SlipValue.{SlipValue}
use Rattle.book.specs.Read.{read_slip}
use Rattle.book.specs.Told.{value_of, start_of, end_of}
use Rattle.book.specs.Promise.{ReadsSlip}
use Rattle.book.proofs.ReadSlip.{part}

-- an answer is what is told of it
pub value_same : (v w : Result Span Refusal) → value_of v ≡ value_of w → v ≡ w
value_same (Err a) (Err b) e = cc
value_same (Err a) (Ok t) e = cc
value_same (Ok s) (Err b) e = cc
value_same (Ok s) (Ok t) e =
    let p : part s.start s.end ≡ part t.start t.end = cc in
    λ n. Ok (record { start = (p n).start; end = (p n).end })

pub find_value_unique : (book : Text) (k tag : ℕ) (v w : Result Span Refusal) → value_of v ≡ read_slip book k tag → value_of w ≡ read_slip book k tag → v ≡ w
find_value_unique book k tag v w a b = value_same v w (a ∙ sym b)

pub read_slip_unique : (book : Bor Text) (k tag : ℕ) (r s : SlipValue) → ReadsSlip book k tag r → ReadsSlip book k tag s
    → (r.sort ≡ s.sort) × SamePart r.value s.value
read_slip_unique book k tag r s a b =
    let e = value_same r.sort s.sort (a.sort ∙ sym b.sort) in
    (e, part_same r.value s.value book (start_of r.sort) (end_of r.sort) a.value (rw (← e) at b.value))
