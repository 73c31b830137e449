-- An entry's promise is made of this.
-- Looking up a place: 1 to 8, 9, 10, or Empty, or Text with its start and end in the message.
use Rattle.std.specs.Prelude.{Bool, not, List, [], ◌∷◌, ◌++◌}
use Rattle.text.specs.Bytes.{Text}
use Rattle.text.specs.Answer.{Answer, Test, test, first}
use Rattle.text.specs.declared.refusal.Refusal.TheVariants.{BadPlace, NoSegment}
use Rattle.frame.specs.Frame.{frame_tests}
use Rattle.frame.specs.Segments.{fewer}
pub use Rattle.checks.specs.Shown.{Found, Empty, text_from_to, shown}
use Rattle.checks.specs.Place.{Place, is_place, stands_at}

abbrev pub found : Text → Place → Found
found m p = shown (stands_at m p).start (stands_at m p).text

-- fewer segments of that name
abbrev pub too_few : Text → Place → Bool
too_few m p = fewer m p.name p.occurrence

abbrev pub look_up_tests : Text → Place → List Test
look_up_tests m p =
    -- 1 to 8
    frame_tests m
    -- 9 BAD PLACE: asked name not of the form; occurrence not 1..512; field, component or subcomponent not 1..255; repetition not 1..65,535
    ++ (test BadPlace (not (is_place p))
    -- 10 NO SEGMENT: fewer segments of that name
    ∷ test NoSegment (too_few m p)
    ∷ [])

-- THE LOOK-UP
unfoldable pub look_up : Text → Place → Answer Found
look_up m p = first (look_up_tests m p) (found m p)
