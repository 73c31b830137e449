-- `field_passes`: an empty field.
use borrow.Author.Rules.{rules}
use Rattle.std.proofs.lemmas.List.{nil_from_length}
use Rattle.segments.proofs.FieldChecks.{none_passes}
use Rattle.segments.proofs.field_passes.Goals as goal

pub returns-then-is_empty : goal.returns-then-is_empty
returns-then-is_empty c e =
    none_passes (record { numbered = c.requires.sound.1; rows = c.requires.field.0; text = c.requires.field.1 }) (nil_from_length _ (search rules)) (c.may_be_empty.ensures e)
