-- A slip's fields, written one after another into a slot of zeros.
use mathlib.Core.Path.{◌≡◌, ap, subst, ◌∙◌}
use Prim.Native.Nat.{ℕ, ◌+◌, ◌-◌, ◌/◌, ◌%◌, ◌≤◌}
use native.Mathlib.Omega.{arith}
use mathlib.Core.List.{[], ◌∷◌, ◌++◌, flat_map, append_assoc, append-nil}
use lib.ListN.{length, take, drop, replicate, length-append}
use lib.Seq.{length-take-le, take-append-le, take-take, drop_at}
use Rattle.text.specs.Bytes.{Text}
use Rattle.escape.specs.Escape.{resolved}
use Rattle.escape.specs.Length.{Fits}
use Rattle.text.specs.Puts.{Puts}
use Rattle.text.specs.declared.marks.Marks.{Marks}
use Rattle.text.proofs.Tests.{empty-none, empty-some}
use Rattle.text.proofs.Lists.{drop_replicate}
use Rattle.text.proofs.Puts.{puts_none, puts-both, puts-front}
use Rattle.escape.proofs.Escapes.{resolved-length, written-length}
use Rattle.tags.specs.Fields.{count_tag, longest_text, head_size}
use Rattle.slot.specs.declared.Values.{Values}
use Rattle.slot.specs.Slot.{tagged, two_bytes, tag_bytes, slot_size, slip_of}
use Rattle.slot.specs.Inner.{values_of}

-- a text before a text that is written already
puts-before-it : {before : Text} {k : ℕ} {t mid : Text} {r j : ℕ} {s after : Text} → Puts before k t mid r → Puts mid j s after k → Puts before j (s ++ t) after r
puts-before-it {before} {k} {t} {mid} {r} {j} {s} {after} p q =
    let front = take k before in
    let rest = t ++ drop (k + length t) before in
    let long = length-take-le k before (omega (arith, p.room)) in
    let held : mid ≡ front ++ rest = p.holds ∙ append_assoc front t (drop (k + length t) before) in
    let first : take j mid ≡ take j before = ap (take j) held ∙ (take-append-le j front rest (omega (arith, long, q.ends)) ∙ take-take j k before (omega (arith, q.ends))) in
    let last : drop (j + length s) mid ≡ rest = ap (drop (j + length s)) held ∙ drop_at front rest (j + length s) (long ∙ q.ends) in
    let l : j + length (s ++ t) ≡ k + length t = omega (arith, length-append s t, q.ends) in
    record {
      room = omega (arith, p.room, l);
      holds = q.holds ∙ rw (first, last, l) (simp append_assoc);
      ends = omega (arith, p.ends, l);
    }

-- the bytes of a field
module _ (k : ℕ) (v : Text) where
  field-none : length v ≡ 0 → tag_bytes (tagged k v) ≡ []
  field-none e = rw (empty-none v e)

  field-some : (length v ≡ 0 → ⊥) → tag_bytes (tagged k v) ≡ k ∷ (two_bytes (length v) ++ v)
  field-some n = rw (empty-some v n)

small-high : (n : ℕ) → n ≤ longest_text → n / 256 % 256 ≡ 0
small-high n h = omega arith

small_low : (n : ℕ) → n ≤ longest_text → n % 256 ≡ n
small_low n h = omega arith

-- a text's field: left out, or its tag, its length and its bytes; there is room for it
module _ (q : Marks) (t : Text) (f : Fits q longest_text t) (slip : Text) (at k : ℕ) (room : at + length (tag_bytes (tagged k (resolved q t))) ≤ length slip) where
  pub puts-empty : length t ≡ 0 → Puts slip at (tag_bytes (tagged k (resolved q t))) slip at
  puts-empty z = rw (field-none k (resolved q t) (omega (arith, resolved-length q t))) (puts_none slip at (omega arith))

  module _ (some : length t ≡ 0 → ⊥) where
    told : tag_bytes (tagged k (resolved q t)) ≡ k ∷ (two_bytes (length (resolved q t)) ++ resolved q t)
    told = field-some k (resolved q t) (λ z. some (omega (arith, z, written-length q t)))

    pub text-room : at + head_size + length (resolved q t) ≤ length slip
    text-room = let r = rw told at room in omega arith

    pub puts-text : {mid after : Text} {r k' : ℕ} → Puts slip (at + head_size) (resolved q t) mid r
        → Puts mid at (k ∷ 0 ∷ (r - (at + head_size)) ∷ []) after k' → Puts slip at (tag_bytes (tagged k (resolved q t))) after r
    puts-text {mid} {after} {r} p h =
        let n = length (resolved q t) in
        let e : r - (at + head_size) ≡ n = omega (arith, p.ends) in
        rw (told, small-high n f.short, small_low n f.short, ← e) (puts-before-it p (subst (Puts mid at (k ∷ 0 ∷ (r - (at + head_size)) ∷ []) after) h.ends h))

zeros-behind : (n : ℕ) {t after : Text} {r : ℕ} → Puts (replicate n 0) 0 t after r → after ≡ t ++ replicate (n - length t) 0
zeros-behind n {t} p = puts-front p ∙ rw (drop_replicate {A = ℕ} 0 (length t) n)

joined : (a b c d e f : Text) → ((((a ++ b) ++ c) ++ d) ++ e) ++ f ≡ a ++ (b ++ (c ++ (d ++ (e ++ (f ++ [])))))
joined a b c d e f = simp (append_assoc, append-nil)

-- THE SLIP, when the five texts and the count stand in a slot of zeros, one after another
pub slip-filled : (q : Marks) (v : Values) {slip a b c d e after : Text} {i j k l m n : ℕ} → slip ≡ replicate slot_size 0
    → Puts slip 0 (tag_bytes (tagged 1 (resolved q v.control.now))) a i
    → Puts a i (tag_bytes (tagged 2 (resolved q v.patient.now))) b j
    → Puts b j (tag_bytes (tagged 3 (resolved q v.placer.now))) c k
    → Puts c k (tag_bytes (tagged 4 (resolved q v.filler.now))) d l
    → Puts d l (tag_bytes (tagged 5 (resolved q v.service.now))) e m
    → Puts e m (tag_bytes (tagged count_tag (two_bytes v.count))) after n
    → after ≡ slip_of (values_of q v)
unfolding slip_of flat_map
slip-filled q v z control patient placer filler service count =
    let f = λ (k : ℕ) (t : Text). tag_bytes (tagged k (resolved q t)) in
    zeros-behind slot_size (puts-both (puts-both (puts-both (puts-both (puts-both (rw z at control) patient) placer) filler) service) count)
    ∙ ap (λ (t : Text). t ++ replicate (slot_size - length t) 0)
    (joined (f 1 v.control.now) (f 2 v.patient.now) (f 3 v.placer.now) (f 4 v.filler.now) (f 5 v.service.now) (tag_bytes (tagged count_tag (two_bytes v.count))))
