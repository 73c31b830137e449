-- Laws of writers.
use mathlib.Core.Path.{◌≡◌, ◌∙◌}
use mathlib.Core.List.{◌++◌}
use lib.ListN.{length}
use Rattle.text.specs.Bytes.{Text}
use Rattle.text.specs.declared.writer.Writer.{Writer}
use Rattle.text.specs.Writes.{Writes}
use Rattle.text.proofs.Puts.{puts-both, puts-length}

-- one text after another is the two put as one
pub writes-both : {a b c : Writer} {s t : Text} → Writes a s b → Writes b t c → Writes a (s ++ t) c
writes-both v w = record { same = w.same ∙ v.same; puts = puts-both v.puts w.puts }

-- the buffer keeps its length
pub writes-length : {a b : Writer} {t : Text} → Writes a t b → length b.out.now ≡ length a.out.now
writes-length w = puts-length w.puts
