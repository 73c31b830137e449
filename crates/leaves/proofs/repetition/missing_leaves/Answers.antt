-- `missing_leaves`: the first required leaf is told from where the loop stands.
use mathlib.Core.Path.{refl}
use Rattle.leaves.proofs.LeafByLeaf.{search_first, search_none, search_found, search_on}
use Rattle.leaves.proofs.repetition.missing_leaves.Goals as goal

pub loop-at-init : goal.loop-at-init
loop-at-init c = search_first c.requires

pub returns-then-table-at-eq-STARRED : goal.returns-then-table-at-eq-STARRED
returns-then-table-at-eq-STARRED c = record { handed-on = refl; first = search_found c.loop-at.invariant c.loop-at-test.true c.if-table-at-eq-STARRED.true }

pub loop-at-preserved : goal.loop-at-preserved
loop-at-preserved c = search_on c.loop-at.invariant c.loop-at-test.true c.if-table-at-eq-STARRED.false

pub returns : goal.returns
returns c = record { handed-on = refl; first = search_none c.loop-at.invariant c.loop-at-test.false }
