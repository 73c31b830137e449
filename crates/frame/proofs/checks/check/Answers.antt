-- `check`: each way out gives the first refusal that applies.
use mathlib.Core.Bool.{not}
use mathlib.Core.Path.{ap, sym, ◌∙◌}
use borrow.Author.Tests.{eqb-true, eqb-false}
use Rattle.text.proofs.Tests.{pointwise-same}
use Rattle.frame.proofs.Order.{says-empty, says-long, says-byte, says-header, says-end, says-segments}
use Rattle.frame.specs.Told.{framing_of}
use Rattle.frame.proofs.checks.check.Goals as goal

pub returns-then-is_empty : goal.returns-then-is_empty
returns-then-is_empty c = says-empty c.args.m.now (eqb-true _ _ (sym c.is_empty.ensures ∙ c.if-is_empty.true))

pub returns-then-m-gt-LONGEST_MESSAGE : goal.returns-then-m-gt-LONGEST_MESSAGE
returns-then-m-gt-LONGEST_MESSAGE c = says-long c.args.m.now (eqb-false _ _ (sym c.is_empty.ensures ∙ c.if-is_empty.false)) c.if-m-gt-LONGEST_MESSAGE.true

pub returns-then-not-all_allowed : goal.returns-then-not-all_allowed
returns-then-not-all_allowed c = says-byte c.args.m.now (eqb-false _ _ (sym c.is_empty.ensures ∙ c.if-is_empty.false)) c.if-m-gt-LONGEST_MESSAGE.false
    _ c.all_allowed.ensures (ap not c.if-not-all_allowed.true)

pub returns-then-not-has_header : goal.returns-then-not-has_header
returns-then-not-has_header c = says-header c.args.m.now (eqb-false _ _ (sym c.is_empty.ensures ∙ c.if-is_empty.false)) c.if-m-gt-LONGEST_MESSAGE.false
    _ c.all_allowed.ensures (ap not c.if-not-all_allowed.false) _ c.has_header.ensures (ap not c.if-not-has_header.true)

pub returns-then-not-ends_with : goal.returns-then-not-ends_with
returns-then-not-ends_with c = says-end c.args.m.now (eqb-false _ _ (sym c.is_empty.ensures ∙ c.if-is_empty.false)) c.if-m-gt-LONGEST_MESSAGE.false
    _ c.all_allowed.ensures (ap not c.if-not-all_allowed.false) _ c.has_header.ensures (ap not c.if-not-has_header.false)
    _ (c.ends_with.ensures.value ∙ pointwise-same _ _) (ap not c.if-not-ends_with.true)

pub returns : goal.returns
returns c = says-segments c.args.m.now (eqb-false _ _ (sym c.is_empty.ensures ∙ c.if-is_empty.false)) c.if-m-gt-LONGEST_MESSAGE.false
    _ c.all_allowed.ensures (ap not c.if-not-all_allowed.false) _ c.has_header.ensures (ap not c.if-not-has_header.false)
    _ (c.ends_with.ensures.value ∙ pointwise-same _ _) (framing_of c.check_segments.result) (ap not c.if-not-ends_with.false) c.check_segments.ensures
