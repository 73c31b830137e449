-- The text at any place of a message with a good frame is of bytes 20 to 7E hex.
use mathlib.Core.Path.{◌≡◌, refl}
use Prim.Native.Nat.{ℕ, zero, suc}
use mathlib.Core.Bool.{Bool, true, false, ◌&&◌}
use mathlib.Core.List.{List, [], ◌∷◌, drop_last}
use lib.ListN.{take, drop}
use lib.Dec.{eqb}
use Rattle.text.specs.Bytes.{Text, pick, cr, printable, every}
use Rattle.text.specs.declared.marks.Marks.{Marks}
use Rattle.text.specs.Marks.{marks_of}
use Rattle.text.proofs.Tests.{both}
use Rattle.text.proofs.Lists.{and_both, or-false, All, all_keep, every_drop, every_take}
use Rattle.parts.specs.Split.{front, split, piece, ended}
use Rattle.parts.specs.Descent.{Step, in_field}
use Rattle.parts.specs.Span.{part_text}
use Rattle.frame.specs.Segments.{segments, named, of_name, is_header, field, unsplit}
use Rattle.frame.specs.Starts.{header_field}
use Rattle.frame.specs.Frame.{allowed, framed}
use Rattle.frame.proofs.Frame.{framed-tests}
use Rattle.frame.proofs.Segments.{field_is}
use Rattle.checks.specs.Place.{Place, leaf_at, text_at}
use Rattle.checks.proofs.Leaf.{leaf_text, leaf-is}
use Rattle.checks.proofs.Stands.{text-is}

-- every byte of a text passes a test; of each of some texts
abbrev pub Each : (ℕ → Bool) → Text → Type 0
Each p t = every p t ≡ true

abbrev Eaches : (ℕ → Bool) → List Text → Type 0
Eaches p ts = All (Each p) ts

each_none : (p : ℕ → Bool) → Each p []
unfolding every
each_none p = refl

each_more : (p : ℕ → Bool) (b : ℕ) (t : Text) → p b ≡ true → Each p t → Each p (b ∷ t)
unfolding every
each_more p b t e h = and_both (p b) (every p t) e h

-- THE PIECES of a text whose bytes, but for its separators, pass a test
module _ (p q : ℕ → Bool) (sep : ℕ) (between : (b : ℕ) → eqb b sep ≡ false → q b ≡ true → p b ≡ true) where
  front-each : (c : Bool) (b : ℕ) (ps : List Text) → eqb b sep ≡ c → q b ≡ true → Eaches p ps → Eaches p (front c b ps)
  front-each true b ps e h a = (each_none p, a)
  front-each false b [] e h a = (each_more p b [] (between b e h) (each_none p), tt)
  front-each false b (t ∷ ps) e h a = (each_more p b t (between b e h) a.0, a.1)

  split_between : (t : Text) → Each q t → Eaches p (split sep t)
  unfolding split every
  split_between [] e = (refl, tt)
  split_between (b ∷ t) e =
      let h = both (q b) (every q t) e in
      front-each (eqb b sep) b (split sep t) refl h.0 (split_between t h.1)

split-each : (p : ℕ → Bool) (sep : ℕ) (t : Text) → Each p t → Eaches p (split sep t)
split-each p sep t e = split_between p p sep (λ b n h. h) t e

piece-each : (p : ℕ → Bool) (n : ℕ) (ps : List Text) → Eaches p ps → Each p (piece n ps)
piece-each p zero ps a = each_none p
piece-each p (suc i) [] a = each_none p
piece-each p (suc zero) (t ∷ ps) a = a.0
piece-each p (suc (suc i)) (t ∷ ps) a = piece-each p (suc i) ps a.1

-- each part of a text
part-each : (p : ℕ → Bool) (ss : List Step) (t : Text) → Each p t → Each p (part_text ss t)
unfolding part_text
part-each p [] t e = e
part-each p (s ∷ ss) t e =
    part-each p ss (piece s.number (split s.mark t))
    (piece-each p s.number (split s.mark t) (split-each p s.mark t e))

-- a leaf of a field, split or not
one_each : (p : ℕ → Bool) (h : Bool) (x : Text) → Each p x → Each p (pick h x [])
one_each p true x e = e
one_each p false x e = each_none p

leaf-step : (p : ℕ → Bool) (w : Bool) (q : Marks) (x : Text) (r c b : ℕ) → Each p x → Each p (leaf_text w q x r c b)
leaf-step p true q x r c b e = one_each p (eqb r 1 && eqb c 1 && eqb b 1) x e
leaf-step p false q x r c b e = part-each p (in_field q r c b) x e

-- each field of a segment
module _ (p : ℕ → Bool) (q : Marks) (s : Text) (e : Each p s) where
  behind-each : (k n : ℕ) → Each p (piece n (split q.field (drop k s)))
  behind-each k n =
      piece-each p n (split q.field (drop k s)) (split-each p q.field (drop k s) (every_drop p k s e))

  header-each : (f : ℕ) → Each p (header_field q s f)
  header-each zero = each_none p
  header-each (suc zero) = every_drop p 3 (take 4 s) (every_take p 4 s e)
  header-each (suc (suc zero)) = every_drop p 4 (take 8 s) (every_take p 8 s e)
  header-each (suc (suc (suc i))) = behind-each 9 (suc i)

  field_step : (f : ℕ) (b : Bool) → Each p (pick b (header_field q s f) (piece f (split q.field (drop 4 s))))
  field_step f true = header-each f
  field_step f false = behind-each 4 f

  field-each : (f : ℕ) → Each p (field q s f)
  field-each f = rw (field_is q s f) (field_step f (is_header s))

  leaf-each : (f r c b : ℕ) → Each p (leaf_at q s f r c b)
  leaf-each f r c b = rw (leaf-is q s f r c b) (leaf-step p (unsplit s f) q (field q s f) r c b (field-each f))

-- the segments of a message of allowed bytes
last-each : (p : ℕ → Bool) (ps : List Text) → Eaches p ps → Eaches p (drop_last ps)
last-each p [] a = tt
last-each p (t ∷ []) a = tt
last-each p (t ∷ u ∷ ps) a = (a.0, last-each p (u ∷ ps) a.1)

plain_byte : (b : ℕ) → eqb b cr ≡ false → allowed b ≡ true → printable b ≡ true
plain_byte b n e = rw (n, or-false) at e

segments-plain : (m : Text) → Each allowed m → Eaches printable (segments m)
unfolding ended
segments-plain m e = last-each printable (split cr m) (split_between printable allowed cr plain_byte m e)

-- THE TEXT AT A PLACE
pub text-plain : (m : Text) (p : Place) → framed m ≡ true → every printable (text_at m p) ≡ true
text-plain m p f =
    let ss = of_name p.name (segments m) in
    rw (text-is m p)
    (leaf-each printable (marks_of m) (piece p.occurrence ss)
    (piece-each printable p.occurrence ss
    (all_keep (Each printable) (named p.name) (segments m) (segments-plain m (framed-tests m f).bytes-allowed)))
    p.field p.repetition p.component p.subcomponent)
