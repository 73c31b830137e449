-- How many bytes of the message are left: for a reader, those after its segment; for whoever chooses a segment's reader, those from its start on. With each call
-- they are fewer.
use Prim.Native.Nat.{◌-◌}
use lib.ListN.{length}
use Rattle.walk.proofs.+before_group.Given as goal

abbrev pub decreases-behind_patient : goal.decreases-behind_patient
decreases-behind_patient l = length l.m.now - l.start

abbrev pub decreases-patient : goal.decreases-patient
decreases-patient l = length l.m.now - l.end
