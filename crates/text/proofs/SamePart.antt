-- Two parts that are that very part of one whole are the same part.
use mathlib.Core.Path.{sym, ◌∙◌}
use Prim.Native.Nat.{ℕ}
use denote.Ref.{Bor}
use Rattle.text.specs.Bytes.{Text}
use Rattle.text.specs.Part.{VeryPart, SamePart}

pub part_same : (r s whole : Bor Text) (a e : ℕ) → VeryPart r whole a e → VeryPart s whole a e → SamePart r s
part_same r s whole a e p q =
    record { bytes = p.bytes ∙ sym q.bytes; block = p.block ∙ sym q.block; offset = p.offset ∙ sym q.offset }
