-- `field_text`: the cursor's bytes, told from the segment's start.
use native.Mathlib.Omega.{arith}
use lib.ListN.{length}
use Rattle.text.specs.Bytes.{within}
use Rattle.cursor.proofs.Moving.{cursor-inside}
use Rattle.located.proofs.FieldText.{field_at}
use Rattle.located.proofs.field_text.Goals as goal

pub slice_bounds-result-end : goal.slice_bounds-result-end
slice_bounds-result-end c = omega (arith, cursor-inside c.args.q.field (within c.fields_start-skip.result (length c.args.s.now) c.args.s.now) c.advance-p.result c.advance-p.ensures.0)

pub returns : goal.returns
returns c = field_at c.args.s.now c.args.k c.requires.0 c.args.number c.requires.1 c.args.q c.fields_start-skip.result c.fields_before-before.result c.advance-p.result
    c.fields_start-skip.ensures c.fields_before-before.ensures c.advance-p.ensures.0 c.advance-p.ensures.1
