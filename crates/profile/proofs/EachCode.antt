-- Each code of each of 01's lists is taken, and stands in its list once: by computation over the whole table.
use mathlib.Core.Path.{◌≡◌, refl}
use mathlib.Core.Bool.{true}
use mathlib.Core.List.{flat_map}
use Rattle.text.specs.Bytes.{every, some, same}
use Rattle.profile.specs.Noted.{noted}
use Rattle.profile.specs.Fields.{rows}
use Rattle.profile.specs.Profile.{profile01}
use Rattle.profile.specs.EachCode.{distinct, codes_taken}

pub codes-are-taken : codes_taken profile01 ≡ true
unfolding flat_map every some same noted rows profile01 distinct codes_taken
codes-are-taken = refl
