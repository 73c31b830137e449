-- A message with a good frame: its tests one by one, and its segments put together again.
use mathlib.Core.Path.{◌≡◌, refl}
use mathlib.Core.Bool.{true, false, not}
use mathlib.Core.List.{[], ◌∷◌}
use lib.ListN.{length, take, drop}
use lib.Dec.{eqb, ltb}
use borrow.Author.Tests.{eqb-true, not-false}
use Rattle.text.specs.Bytes.{Text, cr, empty, every, some, same}
use Rattle.text.specs.Answer.{passes}
use Rattle.text.specs.Marks.{marks_of}
use Rattle.text.proofs.Tests.{not-true}
use Rattle.text.proofs.Answer.{passes-rest}
use Rattle.parts.specs.Split.{split, ended, closed}
use Rattle.parts.proofs.Join.{closed-front}
use Rattle.frame.specs.Segments.{segments, is_header}
use Rattle.frame.specs.Frame.{allowed, header, ends_with_cr, is_segment, frame_tests, framed}

pub record Framed (m : Text) : Type 0 where
  pub some_byte : empty m ≡ false
  pub short : ltb 65535 (length m) ≡ false
  pub bytes-allowed : every allowed m ≡ true
  pub headed : same (take 9 m) (header (marks_of m)) ≡ true
  pub closed_by_cr : ends_with_cr m ≡ true
  pub formed : every (is_segment (marks_of m)) (segments m) ≡ true
  pub one-header : some is_header (drop 1 (segments m)) ≡ false
  pub few : ltb 512 (length (segments m)) ≡ false

pub framed-tests : (m : Text) → framed m ≡ true → Framed m
unfolding frame_tests passes
framed-tests m e =
    let e1 = passes-rest (empty m) _ e in
    let e2 = passes-rest (ltb 65535 (length m)) _ e1.1 in
    let e3 = passes-rest (not (every allowed m)) _ e2.1 in
    let e4 = passes-rest (not (same (take 9 m) (header (marks_of m)))) _ e3.1 in
    let e5 = passes-rest (not (ends_with_cr m)) _ e4.1 in
    let e6 = passes-rest (not (every (is_segment (marks_of m)) (segments m))) _ e5.1 in
    let e7 = passes-rest (some is_header (drop 1 (segments m))) _ e6.1 in
    let e8 = passes-rest (ltb 512 (length (segments m))) _ e7.1 in
    record {
      some_byte = e1.0;
      short = e2.0;
      bytes-allowed = not-false (every allowed m) e3.0;
      headed = not-false (same (take 9 m) (header (marks_of m))) e4.0;
      closed_by_cr = not-false (ends_with_cr m) e5.0;
      formed = not-false (every (is_segment (marks_of m)) (segments m)) e6.0;
      one-header = e7.0;
      few = e8.0;
    }

pub tests-framed : (m : Text) → Framed m → framed m ≡ true
unfolding frame_tests passes
tests-framed m f =
    rw (f.some_byte, f.short, f.bytes-allowed, f.headed, f.closed_by_cr, f.formed, f.one-header, f.few)

-- a message that ends with CR is its segments, each closed by one
pub closed-segments : (m : Text) → ends_with_cr m ≡ true → closed cr (segments m) ≡ m
unfolding ends_with_cr ended split
closed-segments [] e = not-true e
closed-segments (b ∷ []) e = rw (eqb-true b cr e) (unfold closed in refl)
closed-segments (b ∷ c ∷ t) e = closed-front cr b c t (eqb b cr) (split cr (c ∷ t)) refl (closed-segments (c ∷ t) e)
