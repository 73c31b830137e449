-- What is printed is the reply, or the line of its refusal.
use mathlib.Core.Path.{◌≡◌, refl, sym, ap, ◌∙◌}
use Prim.Native.Nat.{ℕ}
use native.Mathlib.Omega.{arith}
use lib.ListN.{length, drop, length-append}
use lib.Seq.{take_at}
use Rattle.text.specs.Bytes.{Text}
use Rattle.text.specs.Answer.{Answer, refused, given, reported, buffer_after}
use Rattle.text.specs.Puts.{Puts}
use Rattle.text.specs.declared.refusal.Refusal.{Refusal}
use Rattle.text.proofs.Answer.{told-refused}
use Rattle.text.proofs.Puts.{puts-length, puts-head}
use Rattle.line.specs.Line.{as_line, refused_line, answer_text}
use Rattle.line.specs.Line.{Shows}

-- a refusal: its line is put to the front
pub shows_refused : (a : Answer Text) (r : Refusal) (before out : Text) (n : ℕ) → refused r ≡ reported a → Puts before 0 (as_line (refused_line r)) out n
    → Shows n out (answer_text a)
shows_refused a r before out n e p =
    record {
      inside = omega (arith, p.room, p.ends, puts-length p);
      text = puts-head p ∙ ap answer_text (sym (told-refused length a r e));
    }

-- a reply: it stands first
pub shows_given : (a : Answer Text) (n : ℕ) (before out : Text) → given n ≡ reported a → out ≡ buffer_after a before → Shows n out (answer_text a)
shows_given (refused s) n before out e b = absurd (let z : ◌≡◌ {A = ℕ} 0 1 = cc in omega arith)
shows_given (given t) n before out e b =
    let l : n ≡ length t = cc in
    record {
      inside = rw (b, l) (omega (arith, length-append t (drop (length t) before)));
      text = rw (b, l) (take_at t (drop (length t) before) (length t) refl);
    }
