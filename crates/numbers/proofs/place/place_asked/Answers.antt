-- `place_asked`: a name of three bytes is those three; any other is looked up as three zeros are.
use mathlib.Core.Path.{sym, ap, ◌∙◌}
use Rattle.text.specs.Bytes.{Text}
use Rattle.reader.specs.Place.{Place}
use Rattle.reader.specs.LookUp.{look_up}
use Rattle.numbers.specs.Told.{place_asked}
use Rattle.numbers.proofs.Asked.{three, zeros-same}
use Rattle.numbers.proofs.place.place_asked.Goals as goal

pub returns-then-name-ne3 : goal.returns-then-name-ne3
returns-then-name-ne3 c m = ap (λ (p : Place). look_up m p) c.place_of.ensures
    ∙ zeros-same c.args.name.now c.args.n.now c.if-name-ne3.true m

pub returns : goal.returns
returns c m = ap (λ (p : Place). look_up m p) c.place_of-2.ensures
    ∙ ap (λ (t : Text). look_up m (place_asked t c.args.n.now)) (sym (three c.args.name.now c.if-name-ne3.false))
