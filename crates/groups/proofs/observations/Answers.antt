-- `observations`: the OBX among the segments up to the next OBR are counted.
use borrow.Author.Rules.{rules}
use borrow.Author.Tests.{tests}
use native.Mathlib.Omega.{arith}
use mathlib.Core.Bool.{not}
use mathlib.Core.Path.{ap, ◌∙◌}
use lib.ListN.{length, drop, length-drop}
use Rattle.text.specs.Bytes.{cr}
use Rattle.text.proofs.Lists.{part-rest}
use Rattle.frame.specs.Segments.{segments}
use Rattle.std.proofs.Common.{inl}
use Rattle.std.proofs.lemmas.Iterator.Consumers.{YieldsList-at, YieldsList-from_first, YieldsList-from_filter, count_from_yields_List}
use Rattle.std.proofs.lemmas.Iterator.Search.{YieldsList-from_take_while}
use Rattle.parts.specs.Split.{ended}
use Rattle.parts.proofs.Reach.{ended-few}
use Rattle.groups.proofs.Counting.{obr, obx, group-counted}
use Rattle.groups.proofs.observations.Goals as goal

pub count-requires-clause-fits : goal.count-requires-clause-fits
count-requires-clause-fits c =
    let e = ap (λ w. length w.iter.rest.now) c.filter.ensures.source in
    let f = ap (λ w. length w.rest.now) c.take_while.ensures.source in
    inl (omega (
      arith,
      e,
      f,
      ended-few c.filter.result.iter.iter.sep c.filter.result.iter.iter.rest.now,
      ap length (part-rest c.args.from c.args.m.now),
      length-drop c.args.from c.args.m.now,
    ))

pub returns : goal.returns
returns c =
    count_from_yields_List _ _ c.count.ensures.ran
    (YieldsList-from_filter _ obx
    (YieldsList-at c.filter.ensures.source
    (YieldsList-from_take_while _ (λ s. not (obr s))
    (YieldsList-at c.take_while.ensures.source (YieldsList-from_first (λ x. x.now) (λ s. ended s.sep s.rest.now) (segments (drop c.args.from c.args.m.now)) (ap (ended cr) (part-rest c.args.from c.args.m.now))))
    c.take_while.ensures.closure c.take_while.ensures.done (λ x b q k. search (rules, tests))))
    c.filter.ensures.closure (λ x b q k. search (rules, tests)))
    ∙ group-counted _
