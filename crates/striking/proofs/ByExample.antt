-- WHAT STRIKING DOES, BY EXAMPLE: computed from the definitions alone, before anything is proved of them.
use mathlib.Core.Path.{◌≡◌, refl, sym, ap, ◌∙◌}
use mathlib.Core.Bool.{false}
use Rattle.text.specs.Bytes.{Text, same}
use Rattle.text.proofs.Tests.{not-true, same_self}
use Rattle.profile.specs.Profile.{profile01}
use Rattle.worked.specs.Worked.{AllHold, P5, P6}
use Rattle.worked.proofs.Computing.{computing}
use Rattle.worked.proofs.Examples.{failing, all_hold}
use Rattle.striking.specs.Strike.{change, rewritten, rows_at, field_leaves, strike_segment, strike}
use Rattle.striking.specs.Striking.{striking_examples}

pub examples-hold : AllHold striking_examples
unfolding computing failing striking_examples change rewritten rows_at field_leaves strike_segment strike
examples-hold = all_hold striking_examples refl

-- texts that are tested unequal differ
differs : (s t : Text) → same s t ≡ false → s ≡ t → ⊥
differs s t e h = not-true (sym e ∙ ap (λ (u : Text). same u t) h ∙ same_self t)

pub p5_changes : strike profile01 P5 ≡ P5 → ⊥
unfolding computing change rewritten rows_at field_leaves strike_segment strike
p5_changes = differs (strike profile01 P5) P5 refl

pub p6_changes : strike profile01 P6 ≡ P6 → ⊥
unfolding computing change rewritten rows_at field_leaves strike_segment strike
p6_changes = differs (strike profile01 P6) P6 refl
