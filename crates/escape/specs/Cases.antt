-- No entry's promise is made of this: it tries the definitions.
-- Short texts with escapes, each the shortest that a wrong reading of 01 would resolve otherwise.
use Prim.Native.String.{String}
use Rattle.std.specs.Prelude.{◌≡◌, Bool, true, false, List, [], ◌∷◌, map, length}
use Rattle.text.specs.Bytes.{Text, bytes}
use Rattle.text.specs.Answer.{Answer, refused, given}
use Rattle.text.specs.Marks.{usual}
use Rattle.text.specs.declared.refusal.Refusal.TheVariants.{BadEscape}
use Rattle.escape.specs.Escape.{resolve, too_long}

pub record Case : Type 0 where
  pub text : String
  pub said : Answer Text

abbrev pub ◌is◌ : String → Answer Text → Case
◌is◌ t a = record { text = t; said = a }

infix 60 ◌is◌
-- resolved into a buffer as long as the text, which is always enough
abbrev pub told : Case → Answer Text
told c = resolve usual (bytes c.text) (length (bytes c.text))

abbrev pub wanted : Case → Answer Text
wanted c = c.said

abbrev pub bad : Answer Text
bad = refused BadEscape

abbrev pub reads : String → Answer Text
reads s = given (bytes s)

abbrev pub cases : List Case
cases =
    -- no escape; the letters by themselves are letters
    ("" is reads "")
    ∷ ("FSTRE" is reads "FSTRE")
    -- the five
    ∷ ("\\F\\" is reads "|")
    ∷ ("\\S\\" is reads "^")
    ∷ ("\\T\\" is reads "&")
    ∷ ("\\R\\" is reads "~")
    ∷ ("\\E\\" is reads "\\")
    -- bytes before and after one; two of them with nothing between
    ∷ ("a\\T\\b" is reads "a&b")
    ∷ ("\\F\\\\S\\" is reads "|^")
    -- what an escape is turned into begins no other, and its last \ begins none
    ∷ ("\\E\\F\\E\\" is reads "\\F\\")
    ∷ ("\\F\\F" is reads "|F")
    ∷ ("\\E\\F\\" is bad)
    ∷ ("\\F\\F\\" is bad)
    -- a \ with too little after it
    ∷ ("\\" is bad)
    ∷ ("\\F" is bad)
    ∷ ("a\\" is bad)
    ∷ ("\\F\\\\" is bad)
    -- a \ with no letter, another letter, a small one, two letters, or no second \ after it
    ∷ ("\\\\" is bad)
    ∷ ("\\\\F\\" is bad)
    ∷ ("\\X\\" is bad)
    ∷ ("\\f\\" is bad)
    ∷ ("\\FS\\" is bad)
    ∷ ("\\Fa" is bad)
    -- after a bad escape a good one mends nothing
    ∷ ("\\X\\F\\" is bad)
    ∷ []

-- THE DEFINITION SAYS SO of each
abbrev pub CasesHold : Type 0
CasesHold = map told cases ≡ map wanted cases

-- too long for a limit of three bytes: an escape counts one, whichever it is
abbrev pub is_long : String → Bool
is_long t = too_long usual 3 (bytes t)

abbrev pub LengthsHold : Type 0
LengthsHold =
    map is_long ("" ∷ "abc" ∷ "abcd" ∷ "\\T\\bc" ∷ "\\T\\bcd" ∷ "\\F\\\\S\\\\R\\" ∷ "\\F\\\\S\\\\R\\\\E\\" ∷ [])
    ≡ false ∷ false ∷ true ∷ false ∷ true ∷ false ∷ true ∷ []
