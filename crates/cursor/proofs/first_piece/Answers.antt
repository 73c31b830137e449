-- `first_piece`: piece 1 starts at the text's start.
use mathlib.Core.Path.{refl}
use Rattle.cursor.proofs.Moving.{cursor-first}
use Rattle.cursor.proofs.first_piece.Goals as goal

pub returns : goal.returns
returns c = (cursor-first c.args.sep c.args.t.now c.end_from.result c.end_from.ensures, refl)
