-- The page, worked out: it has 01's lists, it fits the program's buffer, and five places of it.
use mathlib.Core.Path.{◌≡◌, refl}
use Prim.Native.Nat.{ℕ, ◌≤◌}
use Prim.Native.String as string
use native.Mathlib.Omega.{arith}
use mathlib.Core.List.{◌++◌, map, flat_map}
use lib.ListN.{length}
use Rattle.text.specs.Bytes.{Text, bytes, keep, same}
use Rattle.text.specs.Decimal.{digits_before}
use Rattle.parts.specs.Split.{led, join, closed}
use Rattle.profile.specs.Table.{Codes, only, gathered, rules_of}
use Rattle.profile.specs.Noted.{Noted, noted}
use Rattle.profile.specs.Lists.{lists}
use Rattle.profile.specs.Fields.{rows}
use Rattle.profile.specs.Profile.{profile01}
use Rattle.line.specs.Line.{as_line}
use Rattle.chart.specs.Chart.{Charted, segment_lists, charted, chart_line, lines_of, page}
use Rattle.chart.specs.Inner.{asked_lines}
use Rattle.page.proofs.AskedLines.{asked-short}

-- a list as 01's block of lists says it
abbrev as_noted : Charted → Noted Codes
as_noted c = record { segment = c.segment; field = c.field; component = c.component; says = only c.codes c.reason }

-- THE PAGE HAS 01'S LISTS, in their order
pub chart_is_lists : map as_noted (charted profile01) ≡ lists
unfolding charted segment_lists rules_of gathered profile01 rows noted keep same flat_map
chart_is_lists = refl

-- all lines take 472 bytes
all_lines : length (lines_of (charted profile01)) ≡ 472
unfolding charted segment_lists rules_of gathered profile01 rows noted keep same flat_map chart_line join led closed digits_before
all_lines = refl

pub page-fits : (name : Text) (f k : ℕ) → length (asked_lines name f k (charted profile01)) ≤ 472
page-fits name f k = omega (arith, asked-short name f k (charted profile01), all_lines)

-- PLACES: PID-8; MSH-9, of which each leaf has a list, and its second leaf alone; PID-5, which has none; a segment that is not listed
abbrev Shows : string.String → ℕ → ℕ → Text → Type 0
Shows n f k t = page profile01 (bytes n) f k ≡ t

pub places :
    Shows "PID" 8 0 (as_line (bytes "PID-8 reason 8 condition 103 codes A F M N O U"))
    × Shows "MSH" 9 0 (as_line (bytes "MSH-9.1 reason 9 condition 200 codes ORU") ++ as_line (bytes "MSH-9.2 reason 10 condition 201 codes R01"))
    × Shows "MSH" 9 2 (as_line (bytes "MSH-9.2 reason 10 condition 201 codes R01"))
    × Shows "PID" 5 0 (as_line (bytes "no list"))
    × Shows "ZZZ" 1 0 (as_line (bytes "no list"))
unfolding page charted segment_lists rules_of gathered profile01 rows noted keep same flat_map chart_line join led closed digits_before
places = (refl, refl, refl, refl, refl)
