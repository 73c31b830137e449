-- A slip made of five texts and a count fills its slot, and is read as the values it was made of.
use mathlib.Core.Path.{◌≡◌, refl, ◌∙◌}
use Prim.Native.Nat.{ℕ, ◌+◌, ◌-◌, ◌≤◌, ◌<◌}
use native.Mathlib.Omega.{arith}
use mathlib.Core.Bool.{true, false}
use mathlib.Core.List.{List, [], ◌∷◌, ◌++◌, append_assoc, append-nil, flat_map}
use lib.ListN.{length, replicate, length-append, length-replicate}
use Rattle.text.specs.Bytes.{Text}
use Rattle.slip.specs.Slot.{slot_size, Tagged, tagged, two_bytes, tag_bytes, slip_of}
use Rattle.tags.specs.Fields.{placer_tag, longest_control, longest_text, greatest_count, head_size, Expected, expected_of, has_tag}
use Rattle.book.specs.Read.{expected}
use Rattle.book.proofs.Fields.{Brief, Held, Reads, reads-field, reads_none, reads-count}

-- a field that may be left out
reads-optional : (x : Expected) (xs : List Expected) (fs : List Tagged) (v rest : Text) → Brief x.most v → x.most < 65536 → x.optional ≡ true
    → has_tag x.tag rest ≡ false → Reads xs fs rest → Reads (x ∷ xs) (tagged x.tag v ∷ fs) (tag_bytes (tagged x.tag v) ++ rest)
reads-optional x xs fs [] rest h m o n r = reads_none x xs fs rest o n r
reads-optional x xs fs (b ∷ v) rest h m o n r = reads-field x (b ∷ v) rest (record { brief = h; some = omega arith }) m xs fs r

-- another field's tag stands first
other_tag : (v rest : Text) → 1 ≤ length v → has_tag placer_tag (tag_bytes (tagged 4 v) ++ rest) ≡ false
other_tag [] rest l = absurd (omega arith)
other_tag (b ∷ v) rest l = refl

bytes-length : (k most : ℕ) (v : Text) → length v ≤ most → length (tag_bytes (tagged k v)) ≤ head_size + most
bytes-length k most [] l = omega arith
bytes-length k most (b ∷ v) l = omega arith

six_parts : (a b c d e f z : Text) → a ++ (b ++ (c ++ (d ++ (e ++ (f ++ []))))) ++ z ≡ a ++ (b ++ (c ++ (d ++ (e ++ (f ++ z)))))
six_parts a b c d e f z = simp (append_assoc, append-nil)

six_lengths : (a b c d e f : Text) → length (a ++ (b ++ (c ++ (d ++ (e ++ (f ++ [])))))) ≡ length a + length b + length c + length d + length e + length f
six_lengths a b c d e f = simp (length-append, append-nil) (omega arith)

abbrev pub six_values : Text → Text → Text → Text → Text → ℕ → List Tagged
six_values v1 v2 v3 v4 v5 n =
    tagged 1 v1 ∷ tagged 2 v2 ∷ tagged 3 v3 ∷ tagged 4 v4 ∷ tagged 5 v5 ∷ tagged 6 (two_bytes n) ∷ []

module _ (v1 v2 v3 v4 v5 : Text) (n : ℕ) (h1 : Held longest_control v1) (h2 : Held longest_text v2) (h3 : Brief longest_text v3) (h4 : Held longest_text v4) (h5 : Held longest_text v5) (l : n ≤ greatest_count) where
  fields-length : length (flat_map tag_bytes (six_values v1 v2 v3 v4 v5 n)) ≤ slot_size
  unfolding flat_map
  fields-length =
      omega (
        arith,
        six_lengths (tag_bytes (tagged 1 v1)) (tag_bytes (tagged 2 v2)) (tag_bytes (tagged 3 v3)) (tag_bytes (tagged 4 v4)) (tag_bytes (tagged 5 v5))
            (tag_bytes (tagged 6 (two_bytes n))),
        bytes-length 1 longest_control v1 h1.brief.short,
        bytes-length 2 longest_text v2 h2.brief.short,
        bytes-length 3 longest_text v3 h3.short,
        bytes-length 4 longest_text v4 h4.brief.short,
        bytes-length 5 longest_text v5 h5.brief.short,
      )

  pub slip-length : length (slip_of (six_values v1 v2 v3 v4 v5 n)) ≡ slot_size
  unfolding slip_of
  slip-length =
      let t = flat_map tag_bytes (six_values v1 v2 v3 v4 v5 n) in
      length-append t (replicate (slot_size - length t) 0) ∙ omega (arith, length-replicate {A = ℕ} (slot_size - length t) 0, fields-length)

  fields_read : (z : ℕ)
      → Reads expected (six_values v1 v2 v3 v4 v5 n)
      (tag_bytes (tagged 1 v1)
      ++ (tag_bytes (tagged 2 v2)
      ++ (tag_bytes (tagged 3 v3)
      ++ (tag_bytes (tagged 4 v4) ++ (tag_bytes (tagged 5 v5) ++ (tag_bytes (tagged 6 (two_bytes n)) ++ replicate z 0))))))
  fields_read z =
      reads-field (expected_of 1) v1 _ h1 (omega arith) _ _
      (reads-field (expected_of 2) v2 _ h2 (omega arith) _ _
      (reads-optional (expected_of 3) _ _ v3 _ h3 (omega arith) refl (other_tag v4 _ h4.some)
      (reads-field (expected_of 4) v4 _ h4 (omega arith) _ _
      (reads-field (expected_of 5) v5 _ h5 (omega arith) _ _ (reads-count n z l)))))

  -- THE SLIP IS READ AS IT WAS MADE
  pub slip-reads : Reads expected (six_values v1 v2 v3 v4 v5 n) (slip_of (six_values v1 v2 v3 v4 v5 n))
  unfolding slip_of flat_map
  slip-reads =
      let z = slot_size - length (flat_map tag_bytes (six_values v1 v2 v3 v4 v5 n)) in
      rw
      (six_parts (tag_bytes (tagged 1 v1)) (tag_bytes (tagged 2 v2)) (tag_bytes (tagged 3 v3)) (tag_bytes (tagged 4 v4)) (tag_bytes (tagged 5 v5))
      (tag_bytes (tagged 6 (two_bytes n)))
      (replicate z 0))
      (fields_read z)
