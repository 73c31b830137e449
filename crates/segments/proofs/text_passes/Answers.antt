-- `text_passes`: by the rows of the field's leaves.
use mathlib.Core.Path.{refl}
use Prim.Native.Nat.{◌+◌}
use lib.ListN.{get_or}
use Rattle.std.proofs.Common.{Ok, inr}
use Rattle.profile.specs.Numbers.{repetitions_column}
use Rattle.codes.proofs.OneField.{field-most}
use Rattle.located.specs.Listed.{leaves_of_field}
use Rattle.located.proofs.FieldLeaves.{lists_itself}
use Rattle.segments.proofs.FieldChecks.{judged-found}
use Rattle.segments.proofs.text_passes.Goals as goal

pub flat_passes-requires : goal.flat_passes-requires
flat_passes-requires c =
    (lists_itself c.args.table.now c.leaf_rows.result (leaves_of_field c.args.q c.args.table.now c.args.s.now c.args.at c.args.end) c.leaf_rows.ensures, c.requires.flat)

pub returns : goal.returns
returns c e =
    judged-found (record { numbered = c.requires.sound.1; rows = c.requires.field.0; text = c.requires.field.1 }) c.leaf_rows.ensures
    (c.flat_passes.ensures e (get_or c.args.table.now (c.args.at + repetitions_column) 0) (field-most c.args.table.now c.args.k c.args.at c.args.end c.requires.field.0))
    (Ok tt) (λ n o. refl) refl (inr refl)
