-- Of `look_up` and `read_slip`, which hand out a struct that holds a reference, the contracts themselves are held to what the demands are
-- about: nothing is asked, and the promise is that one.
use mathlib.Core.Path.{◌≡◌, refl}
use seplogic.Ra.Ura.{Ura}
use base.Logic.{SProp}
use contract.Lifetimes.{Lfts}
use contract.Monad.{Fun}
use contract.Notation.{connectives}
use types.Logic.{Logic}
use prog.Memory.{Memory}
use prog.Routine.{Routine}
use denote.Triple.Entry.{Args, Res}
use denote.Triple.Clauses.{AtExit}
use Rattle.reader.specs.contracts.look_up as look_up
use Rattle.book.specs.contracts.read_slip as read-slip
use Rattle.demands.specs.Promises.{look_up_promise, read_slip_promise}

module _ {M : Type 1} {𝓤 : Ura M} (𝓛 : Logic 𝓤) (mem : Memory → SProp 𝓤) (run : Routine → Fun 𝓤) (κs : Lfts 1) where
  open connectives 𝓤 use {⌜◌⌝, ⊤ₛ}

  module _ (args : Args look_up.signature κs) where
    pub looking_up_asks : (look_up.clauses 𝓛 mem run κs args).requires tt ≡ ⊤ₛ
    looking_up_asks = refl

    pub looking_up_promises : (r : Res look_up.signature κs) (end : AtExit look_up.ended κs)
        → (look_up.clauses 𝓛 mem run κs args).ensures tt r end ≡ ⌜ look_up_promise args.0 args.1.0 r ⌝
    looking_up_promises r end = refl

  module _ (args : Args read-slip.signature κs) where
    pub reading-asks : (read-slip.clauses 𝓛 mem run κs args).requires tt ≡ ⊤ₛ
    reading-asks = refl

    pub reading_promises : (r : Res read-slip.signature κs) (end : AtExit read-slip.ended κs)
        → (read-slip.clauses 𝓛 mem run κs args).ensures tt r end ≡ ⌜ read_slip_promise args.0 args.1.0 args.1.1.0 r ⌝
    reading_promises r end = refl
