-- All that has to be opened so that the definitions compute.
use mathlib.Core.List.{flat_map}
use Rattle.text.specs.Bytes.{every, some, keep, same}
use Rattle.text.specs.Answer.{first}
use Rattle.text.specs.Marks.{marks_of}
use Rattle.escape.specs.Escape.{is_escape, stands_for, stops, bad_escape, resolved, resolve}
use Rattle.types.specs.Types.{digits, rest, twos}
use Rattle.parts.specs.Split.{split, ended, led, join, closed, trimmed}
use Rattle.parts.specs.Descent.{part}
use Rattle.frame.specs.Segments.{count_from, located_segments, occurrence_of, field_of}
use Rattle.frame.specs.Frame.{ends_with_cr, frame_tests}
use Rattle.profile.specs.Table.{type_leaves, gathered, rules_of}
use Rattle.profile.specs.Noted.{noted}
use Rattle.profile.specs.Fields.{rows}
use Rattle.profile.specs.Profile.{profile01}
use Rattle.reader.specs.Place.{apart, leaf_at, repetitions, stands_at, text_at}
use Rattle.reader.specs.LookUp.{look_up}
use Rattle.reader.specs.View.{filled_up_to, field_seen, segment_seen, view}
use Rattle.reader.specs.Fault.{walk, checks, first_broken, verdict, judge}
use Rattle.text.specs.Decimal.{digits_before}
use Rattle.line.specs.Line.{fault_line, text_line}
use Rattle.reply.specs.Header.{copied_hd}
use Rattle.reply.specs.Error.{without_trailing_zeros}
use Rattle.reply.specs.Reply.{reply_text, reply}
use Rattle.slip.specs.Slot.{slip_of}
use Rattle.reader.specs.Observations.{observations, observations_from}
use Rattle.slip.specs.Slip.{slip_text}
use Rattle.slip.specs.Book.{file}
use Rattle.book.specs.Read.{is_slip_from, value_from, read_slip}

unfoldable pub computing : Unit {0}
unfolding flat_map every some keep same first marks_of is_escape stands_for stops bad_escape resolved resolve digits rest twos split ended led join closed part count_from located_segments occurrence_of field_of ends_with_cr frame_tests type_leaves gathered rules_of noted rows profile01 apart leaf_at repetitions stands_at text_at look_up filled_up_to field_seen segment_seen view walk checks first_broken verdict judge digits_before fault_line text_line trimmed copied_hd without_trailing_zeros reply_text reply observations observations_from slip_of slip_text file is_slip_from value_from read_slip
computing = tt
