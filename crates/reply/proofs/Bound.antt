-- No reply exceeds 3,200 bytes.
use Prim.Native.Nat.{ℕ, suc, ◌+◌, ◌*◌, ◌≤◌, ◌<◌, ◌-◌, ◌/◌, ◌%◌}
use native.Mathlib.Omega.{arith}
use mathlib.Core.Path.{◌≡◌, refl}
use mathlib.Core.Bool.{Bool, true, false, ◌&&◌, ◌||◌}
use mathlib.Core.List.{List, [], ◌∷◌, map}
use lib.ListN.{length, length-append}
use lib.Dec.{eqb, leb, ltb}
use borrow.Author.Tests.{ltb-false, eqb-true, leb-true, lt-ltb}
use Rattle.text.specs.Bytes.{Text, pick, bytes, byte, cr, digit, capital_or_digit, empty, every, some, same, is_one}
use Rattle.text.specs.Decimal.{digits_before, decimal}
use Rattle.text.specs.Marks.{usual, marks_of}
use Rattle.text.specs.declared.marks.Marks.{Marks}
use Rattle.escape.specs.Escape.{bad_escape, resolved, too_long}
use Rattle.escape.proofs.Escapes.{written-length}
use Rattle.types.specs.Types.{is_dtm, day_exists, is_stamp, is_reply_number}
use Rattle.text.specs.Ranges.{◌to◌, is_within}
use Rattle.text.proofs.Tests.{not-true, both, picks, same_true}
use Rattle.text.proofs.Lists.{All, or_either, or-none}
use Rattle.text.proofs.Digits.{decimal-length}
use Rattle.parts.specs.Split.{led, join, closed, trimmed}
use Rattle.frame.specs.Frame.{header}
use Rattle.profile.specs.Table.{Table, IS, ST, ID}
use Rattle.profile.specs.Lists.{processing_ids}
use Rattle.profile.specs.Limits.{limit_of, control_limit}
use Rattle.profile.specs.Profile.{profile01}
use Rattle.reader.specs.Place.{Place}
use Rattle.reader.specs.Fault.{Verdict, accepted, fault, verdict, condition}
use Rattle.heading.specs.Header.{header_leaf, is_unfit, or_empty, copied_hd, processing, header_fields, reply_header}
use Rattle.report.specs.Error.{first_rejection, code, without_trailing_zeros, place_numbers, place_text, condition_text, reply_err}
use Rattle.reply.specs.Reply.{control, no_control, reply_msa, reply_text, longest_reply}
use Rattle.reply.proofs.Small.{Small, SmallVerdict, small_table, profile_small, verdict-small}

abbrev Within : ℕ → Text → Type 0
Within k t = length t ≤ k

-- 1. Joined texts
-- the length of texts with a separator to each
abbrev total : List Text → ℕ
total [] = 0
total (p ∷ ps) = suc (length p + total ps)

module _ (sep : ℕ) where
  led-length : (ps : List Text) → length (led sep ps) ≡ total ps
  unfolding led
  led-length [] = refl
  led-length (p ∷ ps) = omega (arith, length-append p (led sep ps), led-length ps)

  join-length : (ps : List Text) → length (join sep ps) ≡ total ps - 1
  unfolding join
  join-length [] = refl
  join-length (p ∷ ps) = omega (arith, length-append p (led sep ps), led-length ps)

  closed-length : (ps : List Text) → length (closed sep ps) ≡ total ps
  unfolding closed
  closed-length [] = refl
  closed-length (p ∷ ps) = omega (arith, length-append p (sep ∷ closed sep ps), closed-length ps)

trimmed-total : (ps : List Text) → total (trimmed ps) ≤ total ps
unfolding trimmed
trimmed-total [] = omega arith
trimmed-total (p ∷ ps) =
    picks (λ (rs : List Text). total rs ≤ total (p ∷ ps)) (empty p && empty (trimmed ps)) (omega arith) (omega (arith, trimmed-total ps))

-- trimmed texts are joined to no more bytes than all of them
trimmed-length : (sep : ℕ) (ps : List Text) (k : ℕ) → total ps ≤ suc k → length (join sep (trimmed ps)) ≤ k
trimmed-length sep ps k h = omega (arith, join-length sep (trimmed ps), trimmed-total ps)

-- 2. Numbers: below 1,000 they have three digits at most
-- the first digit; a digit after others
module _ (k n : ℕ) (t : Text) where
  digits-first : n < 10 → length (digits_before (suc k) n t) ≤ 1 + length t
  unfolding digits_before
  digits-first h = rw (lt-ltb n 10 h) (omega arith)

  digits_more : (j : ℕ) → length (digits_before k (n / 10) ((byte "0" + n % 10) ∷ t)) ≤ suc j + length t
      → length (digits_before (suc k) n t) ≤ suc j + length t
  unfolding digits_before
  digits_more j h = picks (Within (suc j + length t)) (ltb n 10) (omega arith) h

three-digits : (n : ℕ) → n < 1000 → length (decimal n) ≤ 3
three-digits n h =
    digits_more 19 n [] 2
    (digits_more 18 (n / 10) ((byte "0" + n % 10) ∷ []) 1
    (digits-first 17 (n / 10 / 10) ((byte "0" + n / 10 % 10) ∷ (byte "0" + n % 10) ∷ []) (omega arith)))

-- with the trailing zeros left off they take no more bytes than all of them
zeros-total : (ns : List ℕ) → total (map decimal (without_trailing_zeros ns)) ≤ total (map decimal ns)
unfolding without_trailing_zeros
zeros-total [] = omega arith
zeros-total (n ∷ ns) =
    picks (λ (rs : List ℕ). total (map decimal rs) ≤ total (map decimal (n ∷ ns))) (eqb n 0 && empty (without_trailing_zeros ns))
    (omega arith) (omega (arith, zeros-total ns))

-- 3. The header
stamp_length : (t : Text) → is_stamp t ≡ true → length t ≡ 14
stamp_length t e =
    let v = both (eqb (length t) 14 && every digit t && is_dtm t) (day_exists t) e in
    let w = both (eqb (length t) 14 && every digit t) (is_dtm t) v.0 in
    eqb-true (length t) 14 (both (eqb (length t) 14) (every digit t) w.0).0

number-length : (t : Text) → is_reply_number t ≡ true → length t ≤ 20
number-length t e =
    let w = both (is_within (1 to 20) (length t)) (every capital_or_digit t) e in
    leb-true (length t) 20 (both (leb 1 (length t)) (leb (length t) 20) w.0).1

-- what is copied is written with three bytes at most for each that a person reads
fit_length : (q : Marks) (k : ℕ) (t : Text) → is_unfit q k t ≡ false → length t ≤ 3 * k
fit_length q k t e =
    omega (arith, written-length q t, ltb-false k (length (resolved q t)) (or-none (bad_escape q t) (too_long q k t) e).1)

or-none-length : (k : ℕ) (t : Text) (unfit : Bool) → (unfit ≡ false → length t ≤ k) → length (pick unfit [] t) ≤ k
or-none-length k t true h = omega arith
or-none-length k t false h = h refl

or-empty-length : (m : Text) (k : ℕ) (t : Text) → length (or_empty (marks_of m) k t) ≤ 3 * k
or-empty-length m k t = or-none-length (3 * k) t (is_unfit (marks_of m) k t) (fit_length (marks_of m) k t)

copied-length : (m : Text) (f : ℕ) → length (copied_hd m f) ≤ 719
unfolding copied_hd
copied-length m f =
    trimmed-length usual.component
    (or_empty (marks_of m) (limit_of IS) (header_leaf m f 1)
    ∷ or_empty (marks_of m) (limit_of ST) (header_leaf m f 2)
    ∷ or_empty (marks_of m) (limit_of ID) (header_leaf m f 3)
    ∷ [])
    719
    (omega (
      arith,
      or-empty-length m (limit_of IS) (header_leaf m f 1),
      or-empty-length m (limit_of ST) (header_leaf m f 2),
      or-empty-length m (limit_of ID) (header_leaf m f 3),
    ))

one-length : (k : ℕ) (t : Text) (l : List Text) → All (Within k) l → is_one t l ≡ true → length t ≤ k
unfolding some
one-length k t [] a e = not-true e
one-length k t (x ∷ l) a e =
    or_either (same t x) (is_one t l) (λ h. rw (same_true t x h) a.0) (one-length k t l a.1) e

processing-step : (t : Text) (b : Bool) → is_one t processing_ids ≡ b → length (pick b t (bytes "P")) ≤ 1
processing-step t true e = one-length 1 t processing_ids (omega arith) e
processing-step t false e = omega arith

processing-length : (t : Text) → length (processing t) ≤ 1
processing-length t = processing-step t (is_one t processing_ids) refl

header-length : (m stamp number : Text) → length stamp ≡ 14 → length number ≤ 20 → length (reply_header m stamp number) ≤ 2945
header-length m stamp number s n =
    omega (
      arith,
      length-append (header usual) (join usual.field (header_fields m stamp number)),
      join-length usual.field (header_fields m stamp number),
      copied-length m 5,
      copied-length m 6,
      copied-length m 3,
      copied-length m 4,
      processing-length (header_leaf m 11 1),
    )

-- 4. The MSA
control-length : (m : Text) → no_control m ≡ false → length (control m) ≤ 60
control-length m e =
    let t = control m in
    fit_length (marks_of m) control_limit t (or-none (empty t) (is_unfit (marks_of m) control_limit t) e).1

code-length : (v : Verdict) → length (code v) ≤ 2
code-length accepted = omega arith
code-length (fault p n) = picks (Within 2) (ltb (condition n) first_rejection) (omega arith) (omega arith)

msa_length : (m : Text) (v : Verdict) → length (control m) ≤ 60 → length (reply_msa m v) ≤ 67
msa_length m v h = omega (arith, join-length usual.field (bytes "MSA" ∷ code v ∷ control m ∷ []), code-length v)

-- 5. The ERR: occurrence and repetition may take 20 digits each, since nothing here bounds them
place-length : (p : Place) → Small p → length (place_text p) ≤ 57
place-length p s =
    omega (
      arith,
      join-length usual.component (p.name ∷ map decimal (without_trailing_zeros (place_numbers p))),
      zeros-total (place_numbers p),
      s.name,
      decimal-length p.occurrence,
      three-digits p.field s.field,
      decimal-length p.repetition,
      three-digits p.component s.component,
      three-digits p.subcomponent s.subcomponent,
    )

condition-small : (n : ℕ) → condition n < 1000
condition-small n =
    let P : ℕ → Type 0 = λ k. k < 1000 in
    picks P (is_within (1 to 2) n) (omega arith)
    (picks P (eqb n 3) (omega arith)
    (picks P (is_within (4 to 7) n || eqb n 13) (omega arith)
    (picks P (eqb n 8) (omega arith)
    (picks P (eqb n 9) (omega arith)
    (picks P (eqb n 10) (omega arith)
    (picks P (eqb n 11) (omega arith)
    (picks P (eqb n 12) (omega arith) (omega arith))))))))

condition-length : (k : ℕ) → length (condition_text k) ≤ 25
condition-length k =
    picks (Within 25) (eqb k 100) (omega arith)
    (picks (Within 25) (eqb k 101) (omega arith)
    (picks (Within 25) (eqb k 102) (omega arith)
    (picks (Within 25) (eqb k 103) (omega arith)
    (picks (Within 25) (eqb k 200) (omega arith)
    (picks (Within 25) (eqb k 201) (omega arith)
    (picks (Within 25) (eqb k 202) (omega arith)
    (picks (Within 25) (eqb k 203) (omega arith) (omega arith))))))))

err_length : (v : Verdict) → SmallVerdict v → total (reply_err v) ≤ 103
err_length accepted s = omega arith
err_length (fault p n) s =
    let k = condition n in
    let words : List Text = decimal k ∷ condition_text k ∷ bytes "HL70357" ∷ [] in
    omega (
      arith,
      join-length usual.field (bytes "ERR" ∷ [] ∷ place_text p ∷ join usual.component words ∷ bytes "E" ∷ []),
      join-length usual.component words,
      place-length p s,
      three-digits k (condition-small n),
      condition-length k,
    )

-- 6. The reply, by any table of small numbers: at most 2,946, 68 and 103 bytes with their CR
reply-length : (T : Table) → small_table T ≡ true → (m stamp number : Text)
    → is_stamp stamp ≡ true → is_reply_number number ≡ true → no_control m ≡ false
    → length (reply_text T m stamp number) ≤ longest_reply
unfolding reply_text
reply-length T ok m stamp number s n c =
    let v = verdict T m in
    omega (
      arith,
      closed-length cr (reply_header m stamp number ∷ reply_msa m v ∷ reply_err v),
      header-length m stamp number (stamp_length stamp s) (number-length number n),
      msa_length m v (control-length m c),
      err_length v (verdict-small T ok m),
    )

-- NO REPLY EXCEEDS 3,200 BYTES
pub reply_bound : (m stamp number : Text) → is_stamp stamp ≡ true → is_reply_number number ≡ true → no_control m ≡ false
    → length (reply_text profile01 m stamp number) ≤ longest_reply
reply_bound m stamp number s n c = reply-length profile01 profile_small m stamp number s n c
