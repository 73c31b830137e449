-- A text that is put part by part: what stands there already, and what is left.
use mathlib.Core.Path.{◌≡◌, sym, ap, subst, ◌∙◌}
use Prim.Native.Nat.{◌+◌, ◌≤◌}
use native.Mathlib.Omega.{arith}
use mathlib.Core.List.{[], ◌++◌, append_assoc, append-nil}
use lib.ListN.{length, length-append}
use Rattle.text.specs.Bytes.{Text}
use Rattle.text.specs.declared.writer.Writer.{Writer}
use Rattle.text.specs.Writes.{Writes}
use Rattle.text.proofs.Writes.{writes-both, writes-length}
use Rattle.chart.proofs.CodeByCode.{writes_none}

pub record Putting (before : Writer) (whole : Text) (mid : Writer) (left : Text) : Type 0 where
  pub room : before.at + length whole ≤ length before.out.now
  pub done : Text
  pub writes : Writes before done mid
  pub parts : done ++ left ≡ whole

-- nothing is put yet: all is left
pub putting-first : {before : Writer} {whole left : Text} → left ≡ whole → before.at + length whole ≤ length before.out.now → Putting before whole before left
putting-first {before} e h = record { room = h; done = []; writes = writes_none before (omega arith); parts = e }

module _ {before mid : Writer} {whole left : Text} (p : Putting before whole mid left) where
  -- there is room for the next part; it is put; nothing is left
  pub putting-room : (a b : Text) → left ≡ a ++ b → mid.at + length a ≤ length mid.out.now
  putting-room a b e =
      omega (arith, p.room, writes-length p.writes, p.writes.puts.ends, ap length p.parts, length-append p.done left, ap length e, length-append a b)

  pub putting-on : {a b : Text} {after : Writer} → left ≡ a ++ b → Writes mid a after → Putting before whole after b
  putting-on {a} {b} e q =
      record {
        room = p.room;
        done = p.done ++ a;
        writes = writes-both p.writes q;
        parts = append_assoc p.done a b ∙ ap (λ (l : Text). p.done ++ l) (sym e) ∙ p.parts;
      }

  pub putting-end : left ≡ [] → Writes before whole mid
  putting-end e =
      subst (λ (t : Text). Writes before t mid)
      (sym (append-nil p.done) ∙ ap (λ (l : Text). p.done ++ l) (sym e) ∙ p.parts)
      p.writes
