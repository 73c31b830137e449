-- Inner: no entry's promise is made of this.
-- What a function inside promises.
use Rattle.std.specs.Prelude.{◌≡◌}
use Rattle.text.specs.Bytes.{Text}
use Rattle.reader.specs.Place.{Place}
use Rattle.reader.specs.LookUp.{look_up}

-- two places at which every message has the same look-up
abbrev pub SameLookUp : Place → Place → Type 0
SameLookUp p q = (m : Text) → look_up m p ≡ look_up m q
