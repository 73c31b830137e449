-- `is_zone`: sign and length, then as many digits within their ranges as there are bytes.
use Rattle.std.proofs.Common.{◌≡◌, ◌≤◌, ◌-◌, ℕ, Bool, true, ◌&&◌, ◌∷◌, [], sym, ap, ◌∙◌, arith, length, get_or, drop, take}
use borrow.Author.Tests.{eqb-true, eq-eqb}
use lib.Dec.{eqb}
use Rattle.text.specs.Bytes.{Text}
use Rattle.text.proofs.Tests.{both}
use Rattle.text.proofs.Lists.{part-rest}
use Rattle.types.specs.Types.{is_zone, sign, zone}
use Rattle.types.specs.Inner.{ranges_of, twos_length}
use Rattle.types.proofs.TwosLaws.{length-all}
use Rattle.types.proofs.is_zone.Goals as goal

counted : (t : Text) (s : Bool) (n : ℕ) → 1 ≤ length t → s ≡ sign (get_or t 0 0) → s && eqb (length (take (length t - 1) (drop 1 t))) 4 ≡ true
    → n ≡ twos_length zone (take (length t - 1) (drop 1 t)) → eqb n 4 ≡ is_zone t
counted [] s n h e f k = absurd (omega arith)
counted (x ∷ t) s n h e f k =
    let w = both s (eqb (length t) 4) (rw part-rest at f) in
    let four : length t ≡ 4 = eqb-true (length t) 4 w.1 in
    let five : length (x ∷ t) ≡ 5 = omega arith in
    rw (sym e ∙ w.0, eq-eqb (length (x ∷ t)) 5 five, length-all zone t, k ∙ ap (twos_length zone) (part-rest 1 (x ∷ t)), four)

pub returns-in-len1-up : goal.returns-in-len1-up
unfolding ranges_of
returns-in-len1-up c = counted c.args.t.now c.is_sign.result _ c.in-len1-up.len_at_least c.is_sign.ensures c.if-is_sign-after.true c.twos_len.ensures.0
