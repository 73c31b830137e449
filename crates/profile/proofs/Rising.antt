-- 01's table stands in strictly rising place order: by computation over the whole of it.
use mathlib.Core.Path.{◌≡◌, refl}
use mathlib.Core.Bool.{true}
use mathlib.Core.List.{flat_map}
use Rattle.text.specs.Bytes.{every, some, keep, same}
use Rattle.profile.specs.Table.{gathered, rules_of}
use Rattle.profile.specs.Noted.{noted}
use Rattle.profile.specs.Fields.{rows}
use Rattle.profile.specs.Profile.{profile01}
use Rattle.profile.specs.Numbers.{number_in}
use Rattle.profile.specs.Rising.{before, in_order, table_rises, fields_rise}

pub profile_rises : table_rises profile01 ≡ true
unfolding flat_map every some same noted rows profile01 number_in before in_order table_rises
profile_rises = refl

pub fields-rise : fields_rise profile01 ≡ true
unfolding flat_map every keep same gathered rules_of noted rows profile01 before in_order fields_rise
fields-rise = refl
