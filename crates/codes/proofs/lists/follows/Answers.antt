-- `follows`: each number of the code is the byte at its place.
use Rattle.std.proofs.Common.{◌≡◌, refl, sym, Bool, true, false, rules}
use borrow.Author.Tests.{tests}
use Rattle.std.specs.Bool.{Decides}
use Rattle.std.specs.Iterator.Adapters.{zip_first, zip_second}
use Rattle.std.proofs.lemmas.Iterator.{YieldsList-from_slice, YieldsList-from_zip, same_from_all}
use Rattle.text.specs.Bytes.{Text, same}
use Rattle.text.proofs.Tests.{same_true, same_self}
use Rattle.codes.proofs.lists.follows.Goals as goal

told : (s t : Text) (r : Bool) → Decides r (t ≡ s) → r ≡ same s t
told s t true d = rw (d.0 refl) (sym (same_self s))
told s t false d =
    elim (same s t) as (λ b. same s t ≡ b → false ≡ b) [ true ↦ (λ e. cc (d.1 (sym (same_true s t e)))) | false ↦ (λ e. refl) ] refl

pub returns : goal.returns
returns c =
    told c.args.s.now c.args.rest.now _
    (same_from_all {s = c.zip.result} c.all.new.self _ c.all.result c.args.rest.now c.args.s.now c.all.ensures.ran
    (YieldsList-from_zip {s = c.zip.result} (YieldsList-from_slice {s = zip_first c.zip.result} c.args.rest.now cc) (YieldsList-from_slice {s = zip_second c.zip.result} c.args.s.now cc))
    c.requires (λ x q k. search (rules, tests)) (λ x q k. search (rules, tests)))
