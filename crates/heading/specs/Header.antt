-- An entry's promise is made of this.
-- The reply's header: its exact bytes, of the message's own header, a stamp and a reply number.
use Rattle.std.specs.Prelude.{ℕ, Bool, ◌||◌, List, [], ◌∷◌, ◌++◌}
use Rattle.text.specs.Bytes.{Text, pick, bytes, is_one}
use Rattle.text.specs.declared.marks.Marks.{Marks}
use Rattle.text.specs.Marks.{usual, marks_of}
use Rattle.escape.specs.Escape.{bad_escape, too_long}
use Rattle.parts.specs.Split.{join, trimmed}
use Rattle.frame.specs.Frame.{header}
use Rattle.profile.specs.Table.{IS, ST, ID}
use Rattle.profile.specs.Limits.{limit_of}
use Rattle.profile.specs.Lists.{processing_ids}
use Rattle.reader.specs.Place.{place, text_at}

-- component c of a header field: the written leaf of repetition 1
abbrev pub header_leaf : Text → ℕ → ℕ → Text
header_leaf m f c = text_at m (place (bytes "MSH") 1 f 1 c 1)

-- with a bad escape, or too long
abbrev pub is_unfit : Marks → ℕ → Text → Bool
is_unfit q limit t = bad_escape q t || too_long q limit t

-- an unfit HD leaf is left empty; another is copied as it is written
abbrev pub or_empty : Marks → ℕ → Text → Text
or_empty q limit t = pick (is_unfit q limit t) [] t

-- an HD as it is copied: three components
abbrev pub hd_of : Marks → Text → Text → Text → Text
hd_of q a b c =
    join usual.component (trimmed (or_empty q (limit_of IS) a ∷ or_empty q (limit_of ST) b ∷ or_empty q (limit_of ID) c ∷ []))

unfoldable pub copied_hd : Text → ℕ → Text
copied_hd m f = hd_of (marks_of m) (header_leaf m f 1) (header_leaf m f 2) (header_leaf m f 3)

-- MSH-11.1 not in its list becomes P
abbrev pub processing : Text → Text
processing t = pick (is_one t processing_ids) t (bytes "P")

-- the header's fields after its ninth byte
abbrev pub header_fields : Text → Text → Text → List Text
header_fields m stamp number =
    copied_hd m 5
    ∷ copied_hd m 6
    ∷ copied_hd m 3
    ∷ copied_hd m 4
    ∷ stamp
    ∷ []
    ∷ bytes "ACK^R01^ACK"
    ∷ number
    ∷ processing (header_leaf m 11 1)
    ∷ bytes "2.5.1"
    ∷ []

abbrev pub reply_header : Text → Text → Text → Text
reply_header m stamp number = header usual ++ join usual.field (header_fields m stamp number)
