-- An entry's promise is made of this.
-- The five separators.
use Rattle.text.specs.Bytes.{Text, byte}
use Rattle.text.specs.declared.marks.Marks.{Marks}

-- those that our own replies are written with, and that a text to resolve is read by
abbrev pub usual : Marks
usual =
    record {
      field = byte "|";
      component = byte "^";
      repetition = byte "~";
      escape = byte "\\";
      subcomponent = byte "&";
    }

-- THE SEPARATORS OF A MESSAGE: fixed. Every reading of a message takes them from here.
unfoldable pub marks_of : Text → Marks
marks_of m = usual
