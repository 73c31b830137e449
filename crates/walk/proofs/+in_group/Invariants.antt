-- How many bytes of the message are left: for a reader, those after its segment; for whoever chooses a segment's reader, those from its start on. With each call
-- they are fewer.
use Prim.Native.Nat.{◌-◌}
use lib.ListN.{length}
use Rattle.walk.proofs.+in_group.Given as goal

abbrev pub decreases-behind_group : goal.decreases-behind_group
decreases-behind_group l = length l.m.now - l.start

abbrev pub decreases-group : goal.decreases-group
decreases-group l = length l.m.now - l.end

abbrev pub decreases-note : goal.decreases-note
decreases-note l = length l.m.now - l.end

abbrev pub decreases-observation : goal.decreases-observation
decreases-observation l = length l.m.now - l.end

abbrev pub decreases-order : goal.decreases-order
decreases-order l = length l.m.now - l.end
