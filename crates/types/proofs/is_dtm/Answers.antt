-- `is_dtm`: the year, the twos after it, and what follows them.
use Prim.Native.Nat.{ℕ, ◌+◌, ◌≤◌}
use native.Mathlib.Omega.{arith}
use mathlib.Core.Path.{◌≡◌, sym, ap, ◌∙◌}
use mathlib.Core.Bool.{◌&&◌, ◌||◌}
use mathlib.Core.Bool.{true}
use mathlib.Core.List.{[], ◌∷◌}
use Rattle.text.specs.Bytes.{Text, digit, every}
use lib.ListN.{length, take, drop, drop_of_length-le}
use lib.Dec.{eqb}
use Rattle.text.proofs.Lists.{part-rest}
use Rattle.types.specs.Types.{calendar, is_dtm, is_fraction, is_zone}
use Rattle.types.specs.Inner.{ranges_of, twos_length}
use Rattle.types.proofs.TwosLaws.{year_short, year_other, date_read}
use Rattle.types.proofs.is_dtm.Goals as goal

pub returns-then-t-lt4 : goal.returns-then-t-lt4
returns-then-t-lt4 c = sym (year_short c.args.t.now c.if-t-lt4.true)

pub returns-then-not-is_si : goal.returns-then-not-is_si
returns-then-not-is_si c = sym (year_other c.args.t.now c.if-t-lt4.false (sym c.is_si.ensures ∙ c.if-not-is_si.true))

-- where the twos end, the rest decides
read : (t after : Text) (n : ℕ) → 4 ≤ length t → every digit (take 4 t) ≡ true → after ≡ drop 4 t → n ≡ twos_length (ranges_of ((1, 12) ∷ (1, 31) ∷ (0, 23) ∷ (0, 59) ∷ (0, 59) ∷ [])) after
    → is_dtm t ≡ is_zone (drop (4 + n) t) || (eqb (4 + n) 14 && is_fraction (drop (4 + n) t))
unfolding ranges_of
read t after n long first e h = date_read t (4 + n) long first (ap (4 +◌) (h ∙ ap (twos_length calendar) e))

pub returns-then-n-t : goal.returns-then-n-t
returns-then-n-t c = let over : length c.args.t.now ≤ 4 + c.twos_len-n.result = omega (arith, c.if-n-t.true) in
    sym (read c.args.t.now _ c.twos_len-n.result c.if-t-lt4.false (sym c.is_si.ensures ∙ c.if-not-is_si.false) (part-rest 4 c.args.t.now) c.twos_len-n.ensures.0 ∙ rw (drop_of_length-le c.args.t.now over))

pub returns : goal.returns
returns c = c.is_ending.ensures ∙ rw (part-rest (4 + c.twos_len-n.result) c.args.t.now)
    (sym (read c.args.t.now _ c.twos_len-n.result c.if-t-lt4.false (sym c.is_si.ensures ∙ c.if-not-is_si.false) (part-rest 4 c.args.t.now) c.twos_len-n.ensures.0))
