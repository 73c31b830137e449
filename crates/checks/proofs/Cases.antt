-- The short messages are judged and looked up in as they should be, by computation.
use mathlib.Core.Path.{refl}
use mathlib.Core.List.{flat_map}
use Rattle.text.specs.Bytes.{every, some, keep, same}
use Rattle.text.specs.Answer.{first}
use Rattle.text.specs.Marks.{marks_of}
use Rattle.escape.specs.Escape.{is_escape, stands_for, stops, bad_escape, resolved}
use Rattle.types.specs.Types.{digits, rest, twos}
use Rattle.parts.specs.Split.{split, ended, led, closed}
use Rattle.parts.specs.Descent.{part}
use Rattle.frame.specs.Segments.{field_of}
use Rattle.frame.specs.Frame.{ends_with_cr, frame_tests}
use Rattle.profile.specs.Table.{type_leaves, gathered, rules_of}
use Rattle.profile.specs.Noted.{noted}
use Rattle.profile.specs.Fields.{rows}
use Rattle.profile.specs.Profile.{profile01}
use Rattle.checks.specs.Place.{apart, leaf_at, repetitions}
use Rattle.checks.specs.View.{filled_up_to, field_seen, segment_seen, view}
use Rattle.checks.specs.Fault.{walk, checks, first_broken, verdict}
use Rattle.checks.specs.LookUp.{look_up}
use Rattle.checks.specs.Cases.{CasesHold, PlaceBeforeSegment, LimitAsRead, DayBeforeList}

pub cases-hold : CasesHold
unfolding flat_map every some keep same marks_of is_escape stands_for stops bad_escape resolved digits rest twos split ended led closed part field_of type_leaves gathered rules_of noted rows profile01 apart leaf_at repetitions filled_up_to field_seen segment_seen view walk checks first_broken verdict
cases-hold = refl

pub place-before-segment : PlaceBeforeSegment
unfolding every some keep same first marks_of split ended led closed ends_with_cr frame_tests look_up
place-before-segment = (refl, refl)

pub limit_as_read : LimitAsRead
unfolding every some same is_escape stands_for stops bad_escape resolved first_broken
limit_as_read = refl

pub day_before_list : DayBeforeList
unfolding every some same is_escape stands_for stops bad_escape resolved digits rest twos first_broken
day_before_list = refl
