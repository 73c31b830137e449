-- Over the definitions: the answers for a struck message are those for the message as it came.
use mathlib.Core.Path.{◌≡◌, refl, sym, ap, ◌∙◌}
use mathlib.Core.Logic.{◌⊎◌, inl, inr}
use Prim.Native.Nat.{ℕ, zero, suc, ◌+◌, ◌-◌, ◌<◌}
use native.Mathlib.Nat.{le_of_suc-le-suc, not-suc-le-zero}
use native.Mathlib.Omega.{arith}
use mathlib.Core.Bool.{Bool, true, false, not, ◌&&◌}
use mathlib.Core.List.{List, [], ◌∷◌, map}
use lib.ListN.{length, get_or, take, drop}
use lib.Dec.{eqb}
use Rattle.text.specs.Bytes.{Text, pick, bytes, empty, keep, same}
use Rattle.text.specs.Answer.{Test, test, first}
use Rattle.text.specs.declared.refusal.Refusal.TheVariants.{BadPlace, NoSegment}
use Rattle.text.specs.declared.marks.Marks.{Marks}
use Rattle.text.specs.Marks.{marks_of}
use Rattle.text.proofs.Tests.{both, same_true}
use Rattle.text.proofs.Lists.{All, every-all, all-kept, some_mono}
use Rattle.text.proofs.Answer.{first-passed, first-given, tell-first}
use Rattle.frame.specs.Segments.{segments, name, named, of_name, occurrence}
use Rattle.frame.specs.Frame.{frame_tests, framed}
use Rattle.profile.specs.Table.{Table, Row, is_listed}
use Rattle.reader.specs.Place.{Place, place, is_place, text_at}
use Rattle.reader.specs.Starts.{start_at}
use Rattle.reader.specs.LookUp.{Empty, text_from_to, found, too_few, look_up_tests, look_up}
use Rattle.reader.specs.Fault.{checks, verdict, judge}
use Rattle.reader.proofs.Stands.{text-stands, found-is}
use Rattle.reply.specs.Header.{header_leaf, copied_hd}
use Rattle.reply.specs.Reply.{reply_text, reply}
use Rattle.reader.specs.Observations.{observations, observations_from, observations_of}
use Rattle.slip.specs.Slip.{slip_text}
use Rattle.slip.specs.Book.{file}
use Rattle.striking.specs.Strike.{is_listed_place, strike_segment, strike}
use Rattle.profile.specs.Fit.{lists_component, has_row, fit, Copied, copied, copies, has_copies}
use Rattle.demands.specs.Demand3.{ByBytes, shown_found, look_up_shown}
use Rattle.striking.proofs.Kept.{name-struck}
use Rattle.striking.proofs.Seen.{has_row_lem}
use Rattle.striking.proofs.Message.{L, strikes, segments-struck, view-same, frame-struck, marks-struck}
use Rattle.striking.proofs.Listed.{not_named, found-named, occurrences_same, text-none, text_same, listed-text}

-- 1. The count of a group's observations
module _ (T : Table) (q : Marks) (obr : is_listed T (bytes "OBR") ≡ true) (obx : is_listed T (bytes "OBX") ≡ true) where
  abbrev R : Text → Bool
  R x = named (bytes "OBR") x

  abbrev X : Text → Bool
  X x = named (bytes "OBX") x

  count-step : (x : Text) (ls ss : List Text) (b : Bool) → L T q x ≡ b
      → observations (map (strike_segment T q) ls) ≡ observations ss
      → observations (map (strike_segment T q) (pick b (x ∷ ls) ls)) ≡ observations (x ∷ ss)
  unfolding observations
  count-step x ls ss true e h = rw (name-struck T q x, h)
  count-step x ls ss false e h =
      rw (not_named T q (bytes "OBR") obr x (R x) refl e, not_named T q (bytes "OBX") obx x (X x) refl e) h

  observations-struck : (ss : List Text) → observations (strikes T q ss) ≡ observations ss
  unfolding keep
  observations-struck [] = refl
  observations-struck (x ∷ ss) = count-step x (keep (L T q) ss) ss (L T q x) refl (observations-struck ss)

  from_step : (x : Text) (ls ss : List Text) (b : Bool) → L T q x ≡ b
      → observations (map (strike_segment T q) ls) ≡ observations ss
      → ((i : ℕ) → observations_from (map (strike_segment T q) ls) i ≡ observations_from ss i)
      → (i : ℕ) → observations_from (map (strike_segment T q) (pick b (x ∷ ls) ls)) i ≡ observations_from (x ∷ ss) i
  unfolding observations_from
  from_step x ls ss true e o h zero = rw (name-struck T q x, o, h 0)
  from_step x ls ss true e o h (suc i) =
      ap (λ (n : Text). observations_from (map (strike_segment T q) ls) (pick (same n (bytes "OBR")) i (suc i))) (name-struck T q x)
      ∙ h (pick (R x) i (suc i))
  from_step x ls ss false e o h zero = rw (not_named T q (bytes "OBR") obr x (R x) refl e) (h 0)
  from_step x ls ss false e o h (suc i) =
      h (suc i) ∙ sym (ap (λ (b : Bool). observations_from ss (pick b i (suc i))) (not_named T q (bytes "OBR") obr x (R x) refl e))

  from-struck : (ss : List Text) (i : ℕ) → observations_from (strikes T q ss) i ≡ observations_from ss i
  unfolding keep
  from-struck [] i = refl
  from-struck (x ∷ ss) i = from_step x (keep (L T q) ss) ss (L T q x) refl (observations-struck ss) (from-struck ss) i

-- 2. Rows and listed names
row_lists_lem : (T : Table) (n : Text) (f c : ℕ) → has_row T n f c ≡ true → is_listed T n ≡ true
row_lists_lem T n f c h =
    some_mono (λ (r : Row). (same r.segment n && eqb r.field f) && lists_component c r.lists) (λ (r : Row). same r.segment n)
    (λ r e.
    let w = both (same r.segment n && eqb r.field f) (lists_component c r.lists) e in
    (both (same r.segment n) (eqb r.field f) w.0).0)
    T.rows h

-- the copied leaves have rows
copy_rows : (T : Table) → has_copies T ≡ true → All (λ (c : Copied). has_row T c.segment c.field c.component ≡ true) copies
unfolding has_copies
copy_rows T cs = every-all (λ (c : Copied). has_row T c.segment c.field c.component) copies cs

-- so the header is listed
header-listed : (T : Table) → has_copies T ≡ true → is_listed T (bytes "MSH") ≡ true
header-listed T cs = row_lists_lem T (bytes "MSH") 3 1 (copy_rows T cs).0

-- a member of a list by its number
member : {A : Type 0} (P : A → Type 0) (d : A) (l : List A) → All P l → (i : ℕ) → i < length l → P (get_or l i d)
member P d [] a i h = absurd (not-suc-le-zero h)
member P d (x ∷ l) a zero h = a.0
member P d (x ∷ l) a (suc i) h = member P d l a.1 i (le_of_suc-le-suc h)

-- 3. A look-up's text by its bytes
shown_by : (m t : Text) (a : ℕ) (b : Bool) → take (length t) (drop a m) ≡ t
    → shown_found m (pick b Empty (text_from_to a (a + length t))) ≡ pick b ByBytes.Empty (ByBytes.Bytes t)
shown_by m t a true h = refl
shown_by m t a false h =
    let e : a + length t - a ≡ length t = omega arith in
    rw (e, h)

shown-text : (m : Text) (p : Place) → shown_found m (found m p) ≡ pick (empty (text_at m p)) ByBytes.Empty (ByBytes.Bytes (text_at m p))
shown-text m p = ap (shown_found m) (found-is m p) ∙ shown_by m (text_at m p) (start_at m p) (empty (text_at m p)) (text-stands m p)

-- 4. The answers
module _ (T : Table) (ok : fit T ≡ true) (cs : has_copies T ≡ true) (m : Text) (good : framed m ≡ true) where
  abbrev m' : Text
  m' = strike T m

  abbrev q : Marks
  q = marks_of m

  abbrev rows : All (λ (c : Copied). has_row T c.segment c.field c.component ≡ true) copies
  rows = copy_rows T cs

  msh : is_listed T (bytes "MSH") ≡ true
  msh = header-listed T cs

  pub good' : framed m' ≡ true
  good' = frame-struck T msh m good

  marks : marks_of m' ≡ q
  marks = marks-struck T msh m good

  pub checks-same : checks T m' ≡ checks T m
  unfolding checks
  checks-same = rw (marks, view-same T m ok marks)

  verdict-same : verdict T m' ≡ verdict T m
  unfolding verdict
  verdict-same = rw checks-same

  pub judge-same : judge T m' ≡ judge T m
  unfolding judge
  judge-same =
      first-given (frame_tests m') (verdict T m') good'
      ∙ rw verdict-same (sym (first-given (frame_tests m) (verdict T m) good))

  -- the text of a leaf that is copied
  copied_by : (n : Text) (o f c : ℕ) → has_row T n f c ≡ true → (occurrence m n o ≡ []) ⊎ (named n (occurrence m n o) ≡ true)
      → text_at m' (place n o f 1 c 1) ≡ text_at m (place n o f 1 c 1)
  copied_by n o f c h (inl e) = text-none T m marks (place n o f 1 c 1) (row_lists_lem T n f c h) e
  copied_by n o f c h (inr e) =
      text_same T m marks (place n o f 1 c 1) (row_lists_lem T n f c h)
      (has_row_lem T q (occurrence m n o) f c (rw (same_true (name (occurrence m n o)) n e) h))

  copied-same : (n : Text) (o f c : ℕ) → has_row T n f c ≡ true → text_at m' (place n o f 1 c 1) ≡ text_at m (place n o f 1 c 1)
  copied-same n o f c h =
      copied_by n o f c h (found-named n (of_name n (segments m)) (all-kept (named n) (segments m)) o)

  -- the i-th of the copied leaves
  row_of : (i : ℕ) → i < length copies → let c = get_or copies i (copied "" 0 0) in has_row T c.segment c.field c.component ≡ true
  row_of i h =
      member (λ (c : Copied). has_row T c.segment c.field c.component ≡ true) (copied "" 0 0) copies rows i h

  leaf : (f c : ℕ) → has_row T (bytes "MSH") f c ≡ true → header_leaf m' f c ≡ header_leaf m f c
  leaf f c h = copied-same (bytes "MSH") 1 f c h

  hd_same : (f : ℕ) → has_row T (bytes "MSH") f 1 ≡ true → has_row T (bytes "MSH") f 2 ≡ true → has_row T (bytes "MSH") f 3 ≡ true
      → copied_hd m' f ≡ copied_hd m f
  unfolding copied_hd
  hd_same f h1 h2 h3 = rw (marks, leaf f 1 h1, leaf f 2 h2, leaf f 3 h3)

  control-same : header_leaf m' 10 1 ≡ header_leaf m 10 1
  control-same = leaf 10 1 (row_of 12 (omega arith))

  reply_text-same : (stamp number : Text) → reply_text T m' stamp number ≡ reply_text T m stamp number
  unfolding reply_text
  reply_text-same stamp number =
      rw (
        hd_same 3 (row_of 0 (omega arith)) (row_of 1 (omega arith)) (row_of 2 (omega arith)),
        hd_same 4 (row_of 3 (omega arith)) (row_of 4 (omega arith)) (row_of 5 (omega arith)),
        hd_same 5 (row_of 6 (omega arith)) (row_of 7 (omega arith)) (row_of 8 (omega arith)),
        hd_same 6 (row_of 9 (omega arith)) (row_of 10 (omega arith)) (row_of 11 (omega arith)),
        leaf 11 1 (row_of 13 (omega arith)),
        control-same,
        verdict-same,
      )

  pub reply-same : (stamp number : Text) (room : ℕ) → reply T m' stamp number room ≡ reply T m stamp number room
  unfolding reply
  reply-same stamp number room =
      first-passed (frame_tests m') _ (reply_text T m' stamp number) good'
      ∙ rw (control-same, marks, reply_text-same stamp number)
      (sym (first-passed (frame_tests m) _ (reply_text T m stamp number) good))

  -- the slip
  obr : is_listed T (bytes "OBR") ≡ true
  obr = row_lists_lem T (bytes "OBR") 2 1 (row_of 15 (omega arith))

  obx : is_listed T (bytes "OBX") ≡ true
  obx = row_lists_lem T (bytes "OBX") 2 1 (row_of 18 (omega arith))

  observations-same : (g : ℕ) → observations_of m' g ≡ observations_of m g
  observations-same zero = refl
  observations-same (suc i) = rw (segments-struck T m) (from-struck T q obr obx (segments m) i)

  slip-same : (g : ℕ) → slip_text m' g ≡ slip_text m g
  unfolding slip_text
  slip-same g =
      rw (
        marks,
        control-same,
        copied-same (bytes "PID") 1 3 1 (row_of 14 (omega arith)),
        copied-same (bytes "OBR") g 2 1 (row_of 15 (omega arith)),
        copied-same (bytes "OBR") g 3 1 (row_of 16 (omega arith)),
        copied-same (bytes "OBR") g 4 1 (row_of 17 (omega arith)),
        observations-same g,
      )

  pub file-same : (g k : ℕ) (book : Text) → file T m' g k book ≡ file T m g k book
  unfolding file
  file-same g k book =
      first-passed (frame_tests m') _ (slip_text m' g) good'
      ∙ rw (verdict-same, occurrences_same T m (bytes "OBR") obr, slip-same g)
      (sym (first-passed (frame_tests m) _ (slip_text m g) good))

  -- the look-up
  abbrev last_tests : Bool → Bool → List Test
  last_tests a b = test BadPlace a ∷ test NoSegment b ∷ []

  look-rest : (u : Text) (p : Place) → framed u ≡ true
      → look_up_shown u p ≡ first (last_tests (not (is_place p)) (too_few u p)) (shown_found u (found u p))
  unfolding look_up
  look-rest u p e =
      tell-first (shown_found u) (look_up_tests u p) (found u p)
      ∙ first-passed (frame_tests u) (last_tests (not (is_place p)) (too_few u p)) (shown_found u (found u p)) e

  pub look-same : (p : Place) → is_listed_place T m p ≡ true → look_up_shown m' p ≡ look_up_shown m p
  look-same p e =
      let few : too_few m' p ≡ too_few m p = rw (occurrences_same T m p.name (both (is_listed T p.name) _ e).0) in
      let shows : shown_found m' (found m' p) ≡ shown_found m (found m p) = shown-text m' p ∙ rw (listed-text T m marks p e) (sym (shown-text m p)) in
      look-rest m' p good' ∙ rw (few, shows) (sym (look-rest m p good))
