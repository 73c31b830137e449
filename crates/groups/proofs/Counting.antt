-- Counting the OBX of a group: those of its segments, up to the next OBR.
use mathlib.Core.Path.{◌≡◌, refl, ap}
use Prim.Native.Nat.{suc, ◌+◌}
use native.Mathlib.Omega.{arith}
use mathlib.Core.Bool.{Bool, true, false, not}
use mathlib.Core.List.{List, [], ◌∷◌}
use lib.ListN.{length, take}
use Rattle.std.specs.List.{filter, prefix_len}
use Rattle.text.specs.Bytes.{Text, bytes, pick}
use Rattle.frame.specs.Segments.{named}
use Rattle.groups.specs.Observations.{observations}

abbrev pub obr : Text → Bool
obr s = named (bytes "OBR") s

abbrev pub obx : Text → Bool
obx s = named (bytes "OBX") s

-- those before the first OBR
abbrev pub group : List Text → List Text
group ss = take (prefix_len (λ s. not (obr s)) ss) ss

-- OBX among them
counted-step : (s : Text) (ss : List Text) (r x : Bool) → obr s ≡ r → obx s ≡ x → length (filter obx (group ss)) ≡ observations ss
    → length (filter obx (group (s ∷ ss))) ≡ pick r 0 (pick x (suc (observations ss)) (observations ss))
counted-step s ss true x e f h = rw e
counted-step s ss false true e f h =
    let n : 1 + prefix_len (λ t. not (obr t)) ss ≡ suc (prefix_len (λ t. not (obr t)) ss) = omega arith in
    rw (e, n, f) (ap suc h)
counted-step s ss false false e f h =
    let n : 1 + prefix_len (λ t. not (obr t)) ss ≡ suc (prefix_len (λ t. not (obr t)) ss) = omega arith in
    rw (e, n, f) h

pub group-counted : (ss : List Text) → length (filter obx (group ss)) ≡ observations ss
unfolding observations
group-counted [] = refl
group-counted (s ∷ ss) = counted-step s ss (obr s) (obx s) refl refl (group-counted ss)
