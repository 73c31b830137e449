-- An entry's promise is made of this.
-- What the frame must be: eight tests, in order.
use Rattle.std.specs.Prelude.{ℕ, Bool, true, false, not, ◌&&◌, ◌||◌, List, [], ◌∷◌, ◌++◌, length, take, drop, eqb, ltb}
use Rattle.text.specs.Bytes.{Text, bytes, cr, printable, empty, every, some, same}
use Rattle.text.specs.Answer.{Test, test, passes}
use Rattle.text.specs.declared.marks.Marks.{Marks}
use Rattle.text.specs.Marks.{marks_of}
use Rattle.text.specs.declared.refusal.Refusal.TheVariants.{Empty, TooLong, BadByte, NoHeader, NoEnd, BadSegment, SecondHeader, TooMany}
use Rattle.frame.specs.Segments.{header_size, segments, is_name, is_header}

-- the greatest length of a message, and how many segments it may have
abbrev pub longest_message : ℕ
longest_message = 65535

abbrev pub most_segments : ℕ
most_segments = 512

-- 20 to 7E hex and CR
abbrev pub allowed : ℕ → Bool
allowed b = printable b || eqb b cr

-- MSH, the five separators, and the field separator again
abbrev pub header : Marks → Text
header q =
    bytes "MSH" ++ (q.field ∷ q.component ∷ q.repetition ∷ q.escape ∷ q.subcomponent ∷ q.field ∷ [])

unfoldable pub ends_with_cr : Text → Bool
ends_with_cr [] = false
ends_with_cr (b ∷ []) = eqb b cr
ends_with_cr (b ∷ c ∷ t) = ends_with_cr (c ∷ t)

-- a segment: a name, then its end or the field separator
abbrev pub opens : Marks → Text → Bool
opens q [] = true
opens q (b ∷ t) = eqb b q.field

abbrev pub is_segment : Marks → Text → Bool
is_segment q s = is_name (take 3 s) && opens q (drop 3 s)

-- those of the segments
abbrev pub segment_tests : Text → List Test
segment_tests m =
    -- 6 BAD SEGMENT: a segment not of the form above, or of no bytes
    test BadSegment (not (every (is_segment (marks_of m)) (segments m)))
    -- 7 SECOND HEADER: a later segment named MSH
    ∷ test SecondHeader (some is_header (drop 1 (segments m)))
    -- 8 TOO MANY: over 512 segments
    ∷ test TooMany (ltb most_segments (length (segments m)))
    ∷ []

-- THE EIGHT TESTS
unfoldable pub frame_tests : Text → List Test
frame_tests m =
    -- 1 EMPTY: no bytes
    test Empty (empty m)
    -- 2 TOO LONG: over 65,535 bytes
    ∷ test TooLong (ltb longest_message (length m))
    -- 3 BAD BYTE: a byte not allowed above
    ∷ test BadByte (not (every allowed m))
    -- 4 NO HEADER: first nine bytes are not MSH, the five separators, and the field separator again
    ∷ test NoHeader (not (same (take header_size m) (header (marks_of m))))
    -- 5 NO END: last byte isn't CR
    ∷ test NoEnd (not (ends_with_cr m))
    -- 6 to 8
    ∷ segment_tests m

-- a message with a good frame
abbrev pub framed : Text → Bool
framed m = passes (frame_tests m)
