-- No entry's promise is made of this: it ties the promises that the demands are about to the code.
-- WHAT THE DEMANDS ARE ABOUT, of the two entries that hand out a part of what they were lent. (The crate `called` has the other four.) Nothing is asked of
-- the caller, and this is promised: the definition's answer, and that very part of the lent message or book.
use Rattle.std.specs.Prelude.{ℕ}
use Rattle.std.specs.Borrow.{Bor}
use Rattle.text.specs.Bytes.{Text}
use Rattle.reader.specs.declared.Place.{Place}
use Rattle.reader.specs.declared.search.LookedUp.{LookedUp}
use Rattle.reader.specs.Promise.{LooksUp}
use Rattle.book.specs.declared.reading.SlipValue.{SlipValue}
use Rattle.book.specs.Promise.{ReadsSlip}

abbrev pub look_up_promise : Bor Text → Place → LookedUp → Type 0
look_up_promise m p r = LooksUp m p r

abbrev pub read_slip_promise : Bor Text → ℕ → ℕ → SlipValue → Type 0
read_slip_promise book slot tag r = ReadsSlip book slot tag r
