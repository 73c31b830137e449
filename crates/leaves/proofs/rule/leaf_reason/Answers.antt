-- `leaf_reason`: a bad escape is the first broken check; where there is none, the others decide.
use Rattle.std.proofs.Common.{◌≡◌, ℕ, true, Option, None, Some, Err}
use Rattle.std.specs.Option.{ok_or}
use Rattle.std.proofs.lemmas.Result.{err_from_is_err_and}
use lib.ListN.{drop}
use Rattle.text.specs.Bytes.{Text}
use Rattle.text.specs.declared.marks.Marks.{Marks}
use Rattle.escape.specs.Escape.{bad_escape}
use Rattle.escape.specs.Length.{Measures}
use Rattle.profile.specs.Numbers.{leaf_of}
use Rattle.checks.specs.declared.reasons.Reason.{Reason}
use Rattle.checks.specs.declared.reasons.Reason.TheVariants.{BadEscape}
use Rattle.leaves.proofs.LeafRule.{rule-escape}
use Rattle.leaves.proofs.rule.leaf_reason.Goals as goal

-- the error is that of a text with no length
escaped : (q : Marks) (s : Text) (n : Option ℕ) (r : Reason) → Measures q s n → Err r ≡ ok_or n BadEscape → (r ≡ BadEscape) × (bad_escape q s ≡ true)
escaped q s None r m e = (cc e, m)
escaped q s (Some n) r m e = cc e

pub returns-in_err-n : goal.returns-in_err-n
returns-in_err-n c p =
    let e = err_from_is_err_and c.from_residual.result c.from_residual.ensures.1 in
    let h = escaped c.args.q c.args.s.now c.resolved_len.result c.in_err-n.field-0.0 c.resolved_len.ensures c.in_err-n.ensures.value in
    rw (e.1, e.2, h.0) (rule-escape c.args.q (leaf_of (drop c.args.at c.args.table.now)) c.args.s.now h.1 p)
