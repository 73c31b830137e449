-- `put_segments`: segment by segment.
use mathlib.Core.Path.{refl}
use lib.ListN.{drop}
use Rattle.profile.specs.Numbers.{segment_names}
use Rattle.page.proofs.Segments.{PutsSegments, puts-segments-first, segment-room, puts-segment, puts-segments}
use Rattle.page.proofs.put_segments.Goals.{After-put_segment, After-put_segment-2, After-put_segment-3, After-put_segment-4, After-put_segment-5, After-put_segment-6}
use Rattle.page.proofs.put_segments.Goals as goal

-- the lines of the first segments stand there
passed1 : (c : After-put_segment)
    → PutsSegments c.args.a.name.now c.args.a.field c.args.a.component c.args.w.now c.put_segment.new.w (drop 1 segment_names)
passed1 c = puts-segment c.requires.sound.1 (puts-segments-first c.requires.room) c.put_segment.ensures

passed2 : (c : After-put_segment-2)
    → PutsSegments c.args.a.name.now c.args.a.field c.args.a.component c.args.w.now c.put_segment-2.new.w (drop 2 segment_names)
passed2 c = puts-segment c.requires.sound.1 (passed1 (goal.at.After-put_segment-2 c).After-put_segment) c.put_segment-2.ensures

passed3 : (c : After-put_segment-3)
    → PutsSegments c.args.a.name.now c.args.a.field c.args.a.component c.args.w.now c.put_segment-3.new.w (drop 3 segment_names)
passed3 c = puts-segment c.requires.sound.1 (passed2 (goal.at.After-put_segment-3 c).After-put_segment-2) c.put_segment-3.ensures

passed4 : (c : After-put_segment-4)
    → PutsSegments c.args.a.name.now c.args.a.field c.args.a.component c.args.w.now c.put_segment-4.new.w (drop 4 segment_names)
passed4 c = puts-segment c.requires.sound.1 (passed3 (goal.at.After-put_segment-4 c).After-put_segment-3) c.put_segment-4.ensures

passed5 : (c : After-put_segment-5)
    → PutsSegments c.args.a.name.now c.args.a.field c.args.a.component c.args.w.now c.put_segment-5.new.w (drop 5 segment_names)
passed5 c = puts-segment c.requires.sound.1 (passed4 (goal.at.After-put_segment-5 c).After-put_segment-4) c.put_segment-5.ensures

passed6 : (c : After-put_segment-6)
    → PutsSegments c.args.a.name.now c.args.a.field c.args.a.component c.args.w.now c.put_segment-6.new.w (drop 6 segment_names)
passed6 c = puts-segment c.requires.sound.1 (passed5 (goal.at.After-put_segment-6 c).After-put_segment-5) c.put_segment-6.ensures

pub put_segment-requires : goal.put_segment-requires
put_segment-requires c = record { sound = (c.requires.sound.0, refl); room = segment-room c.requires.sound.1 (puts-segments-first {before = c.args.w.now} c.requires.room) }

pub put_segment-requires-2 : goal.put_segment-requires-2
put_segment-requires-2 c = record { sound = (c.requires.sound.0, refl); room = segment-room c.requires.sound.1 (passed1 (goal.at.put_segment-requires-2 c).After-put_segment) }

pub put_segment-requires-3 : goal.put_segment-requires-3
put_segment-requires-3 c = record { sound = (c.requires.sound.0, refl); room = segment-room c.requires.sound.1 (passed2 (goal.at.put_segment-requires-3 c).After-put_segment-2) }

pub put_segment-requires-4 : goal.put_segment-requires-4
put_segment-requires-4 c = record { sound = (c.requires.sound.0, refl); room = segment-room c.requires.sound.1 (passed3 (goal.at.put_segment-requires-4 c).After-put_segment-3) }

pub put_segment-requires-5 : goal.put_segment-requires-5
put_segment-requires-5 c = record { sound = (c.requires.sound.0, refl); room = segment-room c.requires.sound.1 (passed4 (goal.at.put_segment-requires-5 c).After-put_segment-4) }

pub put_segment-requires-6 : goal.put_segment-requires-6
put_segment-requires-6 c = record { sound = (c.requires.sound.0, refl); room = segment-room c.requires.sound.1 (passed5 (goal.at.put_segment-requires-6 c).After-put_segment-5) }

pub put_segment-requires-7 : goal.put_segment-requires-7
put_segment-requires-7 c = record { sound = (c.requires.sound.0, refl); room = segment-room c.requires.sound.1 (passed6 (goal.at.put_segment-requires-7 c).After-put_segment-6) }

pub returns : goal.returns
returns c = puts-segments (puts-segment c.requires.sound.1 (passed6 (goal.at.returns c).After-put_segment-6) c.put_segment-7.ensures)
