-- `is_one_of`: what is left of the codes decides.
use Rattle.std.proofs.Common.{◌≡◌, true, length}
use Rattle.text.specs.Bytes.{is_one, within}
use Rattle.profile.specs.Codes.{codes_from, are_codes}
use Rattle.codes.proofs.lists.is_one_of.Given as goal

abbrev pub invariant-loop-number : goal.invariant-loop-number
invariant-loop-number l = record {
  are : are_codes l.left ≡ true;
  same : is_one l.s (codes_from l.left) ≡ is_one l.s (codes_from (within l.start l.end l.codes));
}

abbrev pub decreases-loop-number : goal.decreases-loop-number
decreases-loop-number l = length l.left
