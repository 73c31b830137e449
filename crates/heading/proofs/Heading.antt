-- The reply's header: what is copied of the message's own header, and its texts one after another.
use mathlib.Core.Path.{◌≡◌, refl, sym, ap, ◌∙◌}
use Prim.Native.Nat.{ℕ, ◌+◌, ◌≤◌}
use native.Mathlib.Omega.{arith}
use mathlib.Core.Bool.{Bool, true, false, not, ◌||◌}
use mathlib.Core.List.{[], ◌∷◌, ◌++◌, append_assoc, append-nil}
use lib.ListN.{length, length-append}
use lib.Dec.{ltb}
use borrow.Author.Tests.{lt-ltb}
use Rattle.text.specs.Bytes.{Text, pick, bytes, byte, cr, empty, is_one}
use Rattle.text.specs.declared.marks.Marks.{Marks}
use Rattle.text.specs.Marks.{usual, marks_of}
use Rattle.parts.specs.Split.{led, join, trimmed}
use Rattle.parts.proofs.Trim.{trimmed-join, trimmed-led, trimmed-left, trimmed-none, none_left}
use Rattle.profile.specs.Lists.{processing_ids}
use Rattle.parts.specs.Descent.{in_repetition}
use Rattle.parts.specs.Span.{part_text}
use Rattle.frame.specs.Segments.{occurrence}
use Rattle.reader.specs.Place.{place}
use Rattle.reader.proofs.Stands.{text-is}
use Rattle.reader.specs.FromField.{Behind, FieldsFrom, first_repetition, first_leaf}
use Rattle.reader.proofs.Cutting.{third-split, component-leaf, field-leaves, behind-both, fields-behind}
use Rattle.heading.specs.Header.{header_leaf, or_empty, hd_of, copied_hd, processing, reply_header}
use Rattle.heading.specs.Inner.{HeaderFrom, leaf_there, hd_there, with_separator, parties}

-- the length of texts that stand one after another
length_three : (a b c : Text) → length ((a ++ b) ++ c) ≡ length a + length b + length c
length_three a b c = simp length-append

length-four : (a b c d : Text) → length (((a ++ b) ++ c) ++ d) ≡ length a + length b + length c + length d
length-four a b c d = simp length-append

length_six : (a b c d e f : Text) → length (((((a ++ b) ++ c) ++ d) ++ e) ++ f) ≡ length a + length b + length c + length d + length e + length f
length_six a b c d e f = simp length-append

-- the second and the third component of an HD, each after its separator, where it or a later one is filled
abbrev second : Text → Text → Text
second b c = pick (ltb 0 (length c) || ltb 0 (length b)) (byte "^" ∷ b) []

abbrev third : Text → Text
third c = pick (ltb 0 (length c)) (byte "^" ∷ c) []

filled : (t : Text) → not (empty t) ≡ ltb 0 (length t)
filled [] = refl
filled (x ∷ t) = sym (lt-ltb 0 (length (x ∷ t)) (omega arith))

joined : (a b c : Text) → (a ++ second b c) ++ third c ≡ join usual.component (trimmed (a ∷ b ∷ c ∷ []))
joined a b c =
    sym
    (trimmed-join (byte "^") a (b ∷ c ∷ [])
    ∙ rw (
      trimmed-led b (c ∷ []) (filled b) (trimmed-left c [] (filled c) none_left) (byte "^"),
      trimmed-led c [] (filled c) none_left (byte "^"),
      trimmed-none (byte "^"),
      append-nil (third c),
      append_assoc a (second b c) (third c),
    ))

-- AN HD AS IT IS COPIED, component by component, and how long it is
pub record Copies (t a b c : Text) : Type 0 where
  pub written : ((a ++ second b c) ++ third c) ++ byte "|" ∷ [] ≡ with_separator t
  pub size : length (with_separator t) ≡ length a + length (second b c) + length (third c) + 1

module _ (q : Marks) (t u w : Text) (later : Behind q.component 1 t u) (last : Behind q.component 1 u w) where
  leaves : (a b c : Text) → a ≡ or_empty q 20 (first_leaf q t) → b ≡ or_empty q 199 (first_leaf q u) → c ≡ or_empty q 20 (first_leaf q w)
      → join usual.component (trimmed (a ∷ b ∷ c ∷ [])) ≡ hd_of q (part_text (in_repetition q 1 1) t) (part_text (in_repetition q 2 1) t) (part_text (in_repetition q 3 1) t)
  leaves a b c i j k =
      rw (i, j, k, component-leaf q 1 t u later, component-leaf q 2 t w (behind-both q.component 1 1 t u w later last))

  pub hd_copied : (fields a b c : Text) → t ≡ first_repetition q fields
      → a ≡ or_empty q 20 (first_leaf q t) → b ≡ or_empty q 199 (first_leaf q u) → c ≡ or_empty q 20 (first_leaf q w) → Copies (hd_there q fields) a b c
  hd_copied fields a b c e i j k =
      let x = ap with_separator (joined a b c ∙ (rw e at (leaves a b c i j k))) in
      record { written = x; size = ap length (sym x) ∙ length-four a (second b c) (third c) (byte "|" ∷ []) }

-- THE FIELDS of the message's header
module _ (m : Text) (f : ℕ) (t : Text) (from : HeaderFrom m f t) (l : 3 ≤ f) where
  leaf-there : (c : ℕ) → leaf_there (marks_of m) t c ≡ header_leaf m f c
  leaf-there c =
      let s = occurrence m (bytes "MSH") 1 in
      field-leaves (marks_of m) s f t from (third-split s f l) c ∙ sym (text-is m (place (bytes "MSH") 1 f 1 c 1))

  pub leaf-copied : first_leaf (marks_of m) (first_repetition (marks_of m) t) ≡ header_leaf m f 1
  leaf-copied = leaf-there 1

  pub hd_there_lem : hd_there (marks_of m) t ≡ copied_hd m f
  unfolding copied_hd
  hd_there_lem = rw (leaf-there 1, leaf-there 2, leaf-there 3)

-- THE PARTIES, field by field, and how long they are
abbrev four : Marks → Text → Text → Text → Text → Text
four q a b c d =
    ((with_separator (hd_there q a) ++ with_separator (hd_there q b)) ++ with_separator (hd_there q c)) ++ with_separator (hd_there q d)

pub record Parties (q : Marks) (m third fourth fifth sixth : Text) : Type 0 where
  pub written : four q fifth sixth third fourth ≡ parties m
  pub size : length (parties m)
      ≡ length (with_separator (hd_there q fifth)) + length (with_separator (hd_there q sixth)) + length (with_separator (hd_there q third)) + length (with_separator (hd_there q fourth))

pub parties-copied : (m : Text) {q : Marks} → q ≡ marks_of m → (t u w x : Text) → HeaderFrom m 3 t
    → Behind q.field 1 t u → Behind q.field 1 u w → Behind q.field 1 w x → Parties q m t u w x
parties-copied m {q} k t u w x from i j l =
    let s = occurrence m (bytes "MSH") 1 in
    let third : FieldsFrom q s 3 t = rw k from in
    let fourth = fields-behind q s 3 1 t u third i in
    let fifth = fields-behind q s 4 1 u w fourth j in
    let sixth = fields-behind q s 5 1 w x fifth l in
    let a = with_separator (hd_there q w) in
    let b = with_separator (hd_there q x) in
    let c = with_separator (hd_there q t) in
    let d = with_separator (hd_there q u) in
    let e : four q w x t u ≡ parties m =
    rw (k, hd_there_lem m 3 t from (omega arith), hd_there_lem m 4 u (rw k at fourth) (omega arith), hd_there_lem m 5 w (rw k at fifth) (omega arith), hd_there_lem m 6 x (rw k at sixth) (omega arith)) in
    record { written = e; size = ap length (sym e) ∙ length-four a b c d }

-- MSH-11.1, the field after the control number's
pub processing-copied : (m : Text) {q : Marks} → q ≡ marks_of m → (t u r : Text) → HeaderFrom m 10 t → Behind q.field 1 t u
    → r ≡ first_leaf q (first_repetition q u) → processing r ≡ processing (header_leaf m 11 1)
processing-copied m {q} k t u r from b e =
    let s = occurrence m (bytes "MSH") 1 in
    let next = fields-behind (marks_of m) s 10 1 t u from (rw k at b) in
    ap processing ((rw k at e) ∙ leaf-copied m 11 u next (omega arith))

-- THE PROCESSING ID, by whether it is in its list
module _ (t : Text) {b : Bool} (told : b ≡ is_one t processing_ids) where
  pub processing-listed : b ≡ true → processing t ≡ t
  processing-listed e = rw (← told, e)

  pub processing-other : b ≡ false → processing t ≡ bytes "P"
  processing-other e = rw (← told, e)

-- the header's texts, one after another: z stands between the fields
spread : (z h a b c d s k n p v e : Text)
    → ((((((h ++ ((((a ++ z) ++ (b ++ z)) ++ (c ++ z)) ++ (d ++ z))) ++ s) ++ (z ++ (z ++ (k ++ z)))) ++ n) ++ z) ++ p) ++ (z ++ (v ++ e))
    ≡ (h ++ (a ++ (z ++ (b ++ (z ++ (c ++ (z ++ (d ++ (z ++ (s ++ (z ++ (z ++ (k ++ (z ++ (n ++ (z ++ (p ++ (z ++ v)))))))))))))))))) ++ e
spread z h a b c d s k n p v e = simp append_assoc

-- up to the stamp, and up to the processing id
abbrev pub addressed : Text → Text
addressed m = bytes "MSH|^~\\&|" ++ parties m

abbrev pub numbered : Text → Text → Text → Text
numbered m stamp number = (((addressed m ++ stamp) ++ bytes "||ACK^R01^ACK|") ++ number) ++ bytes "|"

-- how long they are
pub record Sizes (m stamp number : Text) : Type 0 where
  pub to_processing : length (numbered m stamp number) ≡ 9 + length (parties m) + length stamp + 14 + length number + 1
  pub whole : length (reply_header m stamp number ++ cr ∷ []) ≡ length (numbered m stamp number) + length (processing (header_leaf m 11 1)) + 7

module _ (m stamp number : Text) where
  pub header-written : (numbered m stamp number ++ processing (header_leaf m 11 1)) ++ (bytes "|2.5.1" ++ cr ∷ []) ≡ reply_header m stamp number ++ cr ∷ []
  unfolding join led
  header-written =
      spread (byte "|" ∷ []) (bytes "MSH|^~\\&|") (copied_hd m 5) (copied_hd m 6) (copied_hd m 3) (copied_hd m 4) stamp (bytes "ACK^R01^ACK") number
      (processing (header_leaf m 11 1)) (bytes "2.5.1") (cr ∷ [])

  pub sizes : Sizes m stamp number
  sizes =
      record {
        to_processing = length_six (bytes "MSH|^~\\&|") (parties m) stamp (bytes "||ACK^R01^ACK|") number (bytes "|");
        whole = ap length (sym header-written) ∙ length_three (numbered m stamp number) (processing (header_leaf m 11 1)) (bytes "|2.5.1" ++ cr ∷ []);
      }
