-- `digits_len`: the digits are what is taken.
use Rattle.std.proofs.Common.{rules, arith, length, sym, ap, ◌∙◌}
use Rattle.std.proofs.lemmas.Iterator.{YieldsList-from_slice}
use Rattle.std.proofs.lemmas.Iterator.Consumers.{count_from_yields_List}
use Rattle.std.proofs.lemmas.Iterator.Search.{YieldsList-from_take_while}
use Rattle.text.specs.Bytes.{digit}
use Rattle.types.proofs.TypeLaws.{digits_taken, digits_most}
use Rattle.types.proofs.digits_len.Goals as goal

pub returns : goal.returns
returns c =
    let e = count_from_yields_List _ _ c.count.ensures.ran
    (YieldsList-from_take_while _ digit (YieldsList-from_slice c.args.t.now cc) c.take_while.ensures.closure c.take_while.ensures.done (λ x b q k. search rules)) in
    let f = e ∙ ap length (sym (digits_taken c.args.t.now)) in
    (f, omega (arith, digits_most c.args.t.now))
