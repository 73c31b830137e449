-- What striking does.
use mathlib.Core.Path.{◌≡◌, refl, sym, ◌∙◌}
use mathlib.Core.Bool.{Bool, true, false, ◌&&◌, ◌||◌}
use mathlib.Core.List.{List, [], ◌∷◌, map}
use lib.ListN.{take}
use Rattle.text.specs.Bytes.{Text, empty, bytes, keep}
use Rattle.text.specs.declared.marks.Marks.{Marks}
use Rattle.text.specs.Marks.{marks_of}
use Rattle.text.proofs.Tests.{same_true}
use Rattle.text.proofs.Lists.{all-kept, or-none}
use Rattle.frame.specs.Segments.{segments, name, named, of_name, occurrence}
use Rattle.frame.specs.Frame.{header, framed}
use Rattle.frame.proofs.Frame.{framed-tests}
use Rattle.profile.specs.Table.{Table, is_listed}
use Rattle.profile.specs.Profile.{profile01}
use Rattle.reader.specs.Place.{Place, text_at}
use Rattle.reader.proofs.Patient.{header-listed}
use Rattle.striking.specs.Strike.{has_leaf, field_leaves, strike_segment, strike}
use Rattle.striking.specs.Striking.{in_first_nine, Striking, NotEmpty}
use Rattle.striking.proofs.ByExample.{examples-hold, p5_changes, p6_changes}
use Rattle.striking.proofs.Kept.{name-struck}
use Rattle.striking.proofs.Message.{L, segments-struck, begins, struck-nine, marks-struck}
use Rattle.striking.proofs.Listed.{found-named, occurrence-struck, listed-text}
use Rattle.reader.proofs.Stands.{leaf-nil, text-is}
use Rattle.striking.proofs.Gone.{leaf-struck-out, none_left, splits}
use Rattle.striking.proofs.Separators.{leaves}

-- 1. The names
module _ (T : Table) (q : Marks) where
  names_struck : (ss : List Text) → map name (map (strike_segment T q) ss) ≡ map name ss
  names_struck [] = refl
  names_struck (s ∷ ss) = rw (name-struck T q s, names_struck ss)

-- 2. The places
module _ (T : Table) (msh : is_listed T (bytes "MSH") ≡ true) (m : Text) (good : framed m ≡ true) where
  abbrev q : Marks
  q = marks_of m

  marks : marks_of (strike T m) ≡ q
  marks = marks-struck T msh m good

  first-nine : take 9 (strike T m) ≡ take 9 m
  first-nine =
      let f = framed-tests m good in
      let w = begins m f in
      struck-nine T msh m w.0 w.1 w.2 ∙ sym (same_true (take 9 m) (header q) f.headed)

  -- a place of a segment that the table names, and of one that it does not
  goes_by : (p : Place) (k : Bool) → is_listed T p.name ≡ k
      → k && (empty (occurrence m p.name p.occurrence) || has_leaf (field_leaves T q (occurrence m p.name p.occurrence) p.field) p.component p.subcomponent) ≡ false
      → in_first_nine p ≡ false → text_at (strike T m) p ≡ []
  goes_by p true l e n =
      text-is (strike T m) p
      ∙ rw (marks, occurrence-struck T m p.name p.occurrence l)
      (leaf-struck-out T q (occurrence m p.name p.occurrence) p.field p.repetition p.component p.subcomponent
      (or-none (empty (occurrence m p.name p.occurrence)) _ e).1
      (splits p.name (occurrence m p.name p.occurrence) p.field
      (found-named p.name (of_name p.name (segments m)) (all-kept (named p.name) (segments m)) p.occurrence) n))
  goes_by p false l e n =
      text-is (strike T m) p
      ∙ rw (segments-struck T m, none_left T q p.name l (segments m) p.occurrence)
      (leaf-nil (marks_of (strike T m)) p.field p.repetition p.component p.subcomponent)

-- WHAT STRIKING DOES, by any table that lists the header
striking : (T : Table) → is_listed T (bytes "MSH") ≡ true → (m : Text) → framed m ≡ true → Striking T m
striking T msh m good =
    record {
      nine = first-nine T msh m good;
      segments-left = rw (segments-struck T m) (names_struck T (marks_of m) (keep (L T (marks_of m)) (segments m)));
      separators = λ n o l. rw (occurrence-struck T m n o l) (leaves T (marks_of m) (occurrence m n o));
      listed = listed-text T m (marks T msh m good);
      unlisted = λ p e n. goes_by T msh m good p (is_listed T p.name) refl e n;
    }

-- SO DEMAND 3 IS NOT EMPTY
pub not-empty : NotEmpty
not-empty =
    record {
      any_table = striking;
      ours = striking profile01 header-listed;
      examples = examples-hold;
      p5_changes = p5_changes;
      p6_changes = p6_changes;
    }
