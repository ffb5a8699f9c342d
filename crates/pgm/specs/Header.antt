-- The header of a P5 file: "A file begins with the bytes `P5`; then white space, the width in decimal digits, white
-- space, the height, white space, the maximum, ONE white space byte, and the pixels". Document 02, wish 1: "15, bad
-- header or maximum 0 (sides are 10's); 16, maximum above 255", "place the first byte at fault (for a maximum, its
-- first digit) or the file's end".
-- Assumes nothing.
use Rattle.std.specs.Prelude.{ℕ, suc, List, get_or, leb, eqb}
use Rattle.refusal.specs.Answer.{Answer}
use Rattle.refusal.specs.Chain.{unless, ◌then◌}
use Rattle.refusal.specs.declared.Later.TheVariants.{BadHeader, BadMaximum}
use Rattle.refusal.specs.declared.Refusal.TheVariants.{Later}
use Rattle.pgm.specs.Bytes.{Byte, is_space, is_digit, bytes_from, first_place, starts_with, behind, numeral}

-- ---- a number behind white space

-- where its digits start
unfoldable pub digits : List Byte → List Byte
digits bytes = behind is_space bytes

unfoldable pub number_in : List Byte → ℕ
number_in bytes = numeral 0 (digits bytes)

unfoldable pub behind_number : List Byte → List Byte
behind_number bytes = behind is_digit (digits bytes)

-- the first byte is white space, and behind all white space stands a digit
unfoldable pub judge_number : List ℕ → List Byte → Answer
judge_number file bytes =
    unless (starts_with is_space bytes) (Later BadHeader) (first_place file bytes)
    then unless (starts_with is_digit (digits bytes)) (Later BadHeader) (first_place file (digits bytes))

-- ---- the fields, each from the white space before it on

-- "`P5` itself has no comment inside; behind it a comment counts as nothing"
unfoldable pub from_width : List ℕ → List Byte
from_width file = bytes_from file 2

unfoldable pub from_height : List ℕ → List Byte
from_height file = behind_number (from_width file)

unfoldable pub from_maximum : List ℕ → List Byte
from_maximum file = behind_number (from_height file)

unfoldable pub from_delimiter : List ℕ → List Byte
from_delimiter file = behind_number (from_maximum file)

unfoldable pub width_in : List ℕ → ℕ
width_in file = number_in (from_width file)

unfoldable pub height_in : List ℕ → ℕ
height_in file = number_in (from_height file)

unfoldable pub maximum_in : List ℕ → ℕ
maximum_in file = number_in (from_maximum file)

-- the first digit of the maximum
unfoldable pub maximum_place : List ℕ → ℕ
maximum_place file = first_place file (digits (from_maximum file))

-- the pixels start behind the one white space byte that delimits them
unfoldable pub pixels_start : List ℕ → ℕ
pixels_start file = suc (first_place file (from_delimiter file))

-- ---- refusals 15 and 16

-- "A file begins with the bytes `P5`"
unfoldable pub judge_magic : List ℕ → Answer
judge_magic file =
    unless (eqb (get_or file 0 0) 80) (Later BadHeader) 0 then unless (eqb (get_or file 1 0) 53) (Later BadHeader) 1

-- the maximum, and the byte that delimits the pixels: a maximum of 0 is at fault at its first digit, which stands
-- before that byte
unfoldable pub judge_from_maximum : List ℕ → Answer
judge_from_maximum file =
    judge_number file (from_maximum file)
    then unless (leb 1 (maximum_in file)) (Later BadHeader) (maximum_place file)
    then unless (starts_with is_space (from_delimiter file)) (Later BadHeader) (first_place file (from_delimiter file))

-- the first byte at fault
unfoldable pub judge_header : List ℕ → Answer
judge_header file =
    judge_magic file
    then judge_number file (from_width file)
    then judge_number file (from_height file)
    then judge_from_maximum file

unfoldable pub judge_maximum : List ℕ → Answer
judge_maximum file = unless (leb (maximum_in file) 255) (Later BadMaximum) (maximum_place file)
