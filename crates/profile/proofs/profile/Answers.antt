-- The machine's numbers are 01's profile and keep the table's rule: by computation over the whole table.
use mathlib.Core.Path.{refl}
use mathlib.Core.List.{flat_map}
use Rattle.text.specs.Bytes.{every, same}
use Rattle.profile.specs.Numbers.{rows_from, types_from, segments_from, table_of}
use Rattle.profile.specs.Codes.{codes_behind, are_whole, lists_from, are_whole_lists}
use Rattle.profile.specs.Order.{rising, alone, of_field, guides}
use Rattle.profile.specs.Profile.{profile01}
use Rattle.profile.specs.Noted.{noted}
use Rattle.profile.specs.Fields.{rows}
use Rattle.profile.proofs.profile.Goals as goal

pub returns : goal.returns
unfolding flat_map same rows_from types_from segments_from table_of profile01 noted rows rising alone of_field guides every codes_behind are_whole lists_from are_whole_lists
returns c = record {
  rows = record { rows = refl; types = refl; otherwise = refl; succession = refl; ends = refl };
  rule = record { rows = record { order = refl; proper = refl; lone = refl }; index = refl; lists = record { inside = refl; lists = record { inside = refl; whole = refl; are = refl } } };
}
