-- `is_fraction`: after the point the number of digits decides, or leaves the zone.
use mathlib.Core.Path.{◌≡◌, ap, ◌∙◌}
use mathlib.Core.Bool.{Bool, true, ◌&&◌}
use Prim.Native.Nat.{ℕ}
use lib.ListN.{length}
use Rattle.text.specs.Bytes.{Text}
use Rattle.text.specs.Ranges.{◌to◌, is_within}
use Rattle.types.specs.Types.{behind_point, digits, is_fraction, is_zone, rest}
use Rattle.types.proofs.TypeLaws.{part-after-digits}
use Rattle.types.proofs.is_fraction.Goals as goal

counted : (t u : Text) (n : ℕ) (b : Bool) → u ≡ behind_point t → n ≡ length (digits u) → is_within (1 to 4) n ≡ b → b && is_zone (rest u) ≡ is_fraction t
counted t u n b e h w = rw (← e, ← h, w)

pub returns : goal.returns
returns c = c.is_zone.ensures
    ∙ ap is_zone (part-after-digits _ c.digits_len-n.result c.digits_len-n.ensures.0)
    ∙ counted c.args.t.now _ c.digits_len-n.result true c.behind_point-after.ensures c.digits_len-n.ensures.0 (c.if-not-n.false)
