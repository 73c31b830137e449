-- `next`: the first of the words that are left.
use Rattle.std.proofs.Common.{rules, ap, ◌∙◌, length, arith}
use Rattle.words.specs.Left.{left_in}
use Rattle.words.proofs.Left.{end_inside, words_next}
use Rattle.words.proofs.WordsIterator.next.Goals as goal

pub overflow_add-end : goal.overflow_add-end
overflow_add-end c = let h = end_inside c.in_ok-rest.rest.now _ c.far_end-end.ensures in search rules

pub slice_bounds-result-end : goal.slice_bounds-result-end
slice_bounds-result-end c = let h = end_inside c.in_ok-rest.rest.now _ c.far_end-end.ensures in search rules

pub returns-clause-steps : goal.returns-clause-steps
returns-clause-steps c = ap left_in c.in_ok-rest.was ∙ words_next _ _ _ c.far_end-end.ensures c.get-self.ensures.lookup.0

pub returns-clause-goes : goal.returns-clause-goes
returns-clause-goes c =
    let e = ap length (ap left_in c.in_ok-rest.was ∙ words_next _ _ _ c.far_end-end.ensures c.get-self.ensures.lookup.0) in
    record { on = λ h. (search rules, h, omega arith); keeps = search rules; rests = search rules }
