-- Inner: no entry's promise is made of this.
-- What only inner functions promise and ask for.
use Rattle.std.specs.Prelude.{ℕ, [], ◌∷◌, ◌++◌}
use Rattle.text.specs.Bytes.{Text, bytes, byte}
use Rattle.text.specs.declared.marks.Marks.{Marks}
use Rattle.text.specs.Marks.{marks_of}
use Rattle.parts.specs.Descent.{in_repetition}
use Rattle.parts.specs.Span.{part_text}
use Rattle.frame.specs.Segments.{occurrence}
use Rattle.reader.specs.FromField.{FieldsFrom, first_repetition}
use Rattle.heading.specs.Header.{hd_of, copied_hd}

-- t is what stands of the message's header from field f on
abbrev pub HeaderFrom : Text → ℕ → Text → Type 0
HeaderFrom m f t = FieldsFrom (marks_of m) (occurrence m (bytes "MSH") 1) f t

-- from MSH-3 on and from MSH-10 on: all that a reply copies
pub record Opened (m third tenth : Text) : Type 0 where
  pub parties : HeaderFrom m 3 third
  pub control : HeaderFrom m 10 tenth

-- the first of the fields that stand there as an HD that is copied
abbrev pub leaf_there : Marks → Text → ℕ → Text
leaf_there q t c = part_text (in_repetition q c 1) (first_repetition q t)

abbrev pub hd_there : Marks → Text → Text
hd_there q t = hd_of q (leaf_there q t 1) (leaf_there q t 2) (leaf_there q t 3)

-- a field with the separator after it
abbrev pub with_separator : Text → Text
with_separator t = t ++ byte "|" ∷ []

-- the reply's parties
abbrev pub parties : Text → Text
parties m =
    ((with_separator (copied_hd m 5) ++ with_separator (copied_hd m 6)) ++ with_separator (copied_hd m 3)) ++ with_separator (copied_hd m 4)
