-- A group has at most 509 OBX: of at most 512 segments one is the header, one a PID and one the group's own OBR.
use mathlib.Core.Path.{◌≡◌, refl}
use Prim.Native.Nat.{ℕ, zero, suc, ◌+◌, ◌≤◌}
use native.Mathlib.Omega.{arith}
use mathlib.Core.Bool.{Bool, true, false, ◌||◌}
use mathlib.Core.List.{List, [], ◌∷◌}
use lib.ListN.{length, get_or, drop}
use borrow.Author.Tests.{ltb-false}
use Rattle.text.specs.Bytes.{Text, pick, bytes, keep, same}
use Rattle.text.proofs.Tests.{same_true}
use Rattle.text.proofs.Lists.{or_either, keep-most, keep_apart}
use Rattle.frame.specs.Segments.{segments, name, named, of_name, fewer}
use Rattle.frame.specs.Frame.{framed}
use Rattle.frame.proofs.Frame.{framed-tests}
use Rattle.profile.specs.Profile.{profile01}
use Rattle.reader.specs.Fault.{verdict, accepted}
use Rattle.frame.proofs.Header.{header-opens}
use Rattle.reader.proofs.Patient.{patient-stands}
use Rattle.reader.specs.Observations.{observations, observations_from, observations_of}
use Rattle.slot.specs.Fields.{greatest_count}

-- the four names, no two of which a segment has
abbrev header : Text
header = bytes "MSH"

abbrev patient : Text
patient = bytes "PID"

abbrev order : Text
order = bytes "OBR"

abbrev observation : Text
observation = bytes "OBX"

abbrev in_group : Text → Bool
in_group s = named observation s || named order s

abbrev in_body : Text → Bool
in_body s = in_group s || named patient s

names_apart : (n k s : Text) → same n k ≡ false → named n s ≡ true → named k s ≡ false
names_apart n k s d e = rw (same_true (name s) n e) d

group_apart : (n s : Text) → same observation n ≡ false → same order n ≡ false → in_group s ≡ true → named n s ≡ false
group_apart n s x r e = or_either (named observation s) (named order s) (names_apart observation n s x) (names_apart order n s r) e

body-apart : (s : Text) → in_body s ≡ true → named header s ≡ false
unfolding same
body-apart s e = or_either (in_group s) (named patient s) (group_apart header s refl refl) (names_apart patient header s refl) e

names_most : (ss : List Text)
    → length (of_name observation ss) + length (of_name order ss) + length (of_name patient ss) + length (of_name header ss) ≤ length ss
unfolding same
names_most ss =
    omega (
      arith,
      keep_apart (named observation) (named order) (λ s. names_apart observation order s refl) ss,
      keep_apart in_group (named patient) (λ s. group_apart patient s refl refl) ss,
      keep_apart in_body (named header) body-apart ss,
      keep-most (λ s. in_body s || named header s) ss,
    )

-- the count of a group: no more than there are OBX
module _ (s : Text) (l : List Text) where
  or-more : (b : Bool) (n : ℕ) → n ≤ length l → n ≤ length (pick b (s ∷ l) l)
  or-more true n h = omega arith
  or-more false n h = h

  observations-step : (a b : Bool) (n : ℕ) → n ≤ length l → pick a 0 (pick b (suc n) n) ≤ length (pick b (s ∷ l) l)
  observations-step true b n h = omega arith
  observations-step false true n h = omega arith
  observations-step false false n h = h

  group_step : (a b : Bool) (n k : ℕ) → n ≤ length l → k ≤ length l → pick a n k ≤ length (pick b (s ∷ l) l)
  group_step true b n k h g = or-more b n h
  group_step false b n k h g = or-more b k g

observations_le : (ss : List Text) → observations ss ≤ length (of_name observation ss)
unfolding observations keep
observations_le [] = omega arith
observations_le (s ∷ ss) =
    observations-step s (of_name observation ss) (named order s) (named observation s) (observations ss) (observations_le ss)

group_le : (ss : List Text) (i : ℕ) → observations_from ss i ≤ length (of_name observation ss)
unfolding observations_from keep
group_le [] i = omega arith
group_le (s ∷ ss) zero =
    group_step s (of_name observation ss) (named order s) (named observation s) (observations ss) (observations_from ss 0)
    (observations_le ss) (group_le ss 0)
group_le (s ∷ ss) (suc i) =
    let j = pick (named order s) i (suc i) in
    or-more s (of_name observation ss) (named observation s) (observations_from ss j) (group_le ss j)

one-header : (h : Text) (ss : List Text) → name h ≡ header → 1 ≤ length (of_name header (h ∷ ss))
unfolding keep same
one-header h ss n = rw n (omega arith)

pub observations-most : (m : Text) (g : ℕ) → framed m ≡ true → verdict profile01 m ≡ accepted → 1 ≤ g → fewer m (bytes "OBR") g ≡ false
    → observations_of m g ≤ greatest_count
observations-most m zero f a l e = omega arith
observations-most m (suc i) f a l e =
    let o = header-opens m f in
    let h : 1 ≤ length (of_name header (segments m)) = rw o.0 (one-header (get_or (segments m) 0 []) (drop 1 (segments m)) o.1) in
    omega (
      arith,
      group_le (segments m) i,
      names_most (segments m),
      ltb-false 512 (length (segments m)) (framed-tests m f).few,
      ltb-false (length (of_name patient (segments m))) 1 (patient-stands m f a),
      ltb-false (length (of_name order (segments m))) (suc i) e,
    )
