-- Values of the definitions, byte by byte: what the reader answers to short files, and what it shows of one.
-- Assumes nothing.
use Rattle.std.specs.Prelude.{◌≡◌, refl, ℕ, Ok, List, [], ◌∷◌, map}
use Prim.Native.Char.{code}
use Prim.Native.String.{String, [] as []ˢ, ◌∷◌ as ◌∷ˢ◌}
use Rattle.refusal.specs.Chain.{unless, ◌then◌}
use Rattle.refusal.specs.Answer.{Answer, done_with, refused_at, giving}
use Rattle.refusal.specs.declared.Later.TheVariants.{BadHeader, BadMaximum, BadPixel}
use Rattle.refusal.specs.declared.Refusal.TheVariants.{Later}
use Rattle.heading.specs.Writing.{decimal_in, decimal, line, header_of, file_of}
use Rattle.pgm.specs.Bytes.{is_space, is_digit, is_hash, is_line_end, uncommented, bytes_from, first_place, starts_with}
use Rattle.pgm.specs.Bytes.{behind, numeral}
use Rattle.pgm.specs.Header.{digits, number_in, behind_number, judge_number, from_width, from_height, from_maximum}
use Rattle.pgm.specs.Header.{from_delimiter, width_in, height_in, maximum_in, maximum_place, pixels_start}
use Rattle.pgm.specs.Header.{judge_magic, judge_from_maximum, judge_header, judge_maximum}
use Rattle.pgm.specs.Reading.{sound_pixels, image_pixels, judge_pixels, judged}
use Rattle.pgm.specs.Reading.{told, header_in, reading}

-- the bytes of a text
abbrev text : String → List ℕ
text []ˢ = []
text (c ∷ˢ rest) = code c ∷ text rest

record Case : Type 0 where
  file : String
  answer : Answer

-- a file that is good, and the three refusals
abbrev good : String → Case
good file = record { file = file; answer = done_with 0 }

abbrev bad : String → ℕ → Case
bad file at = record { file = file; answer = refused_at (Later BadHeader) at }

abbrev bright : String → ℕ → Case
bright file at = record { file = file; answer = refused_at (Later BadMaximum) at }

abbrev wrong : String → ℕ → Case
wrong file at = record { file = file; answer = refused_at (Later BadPixel) at }

-- an "a" is 97, a "b" is 98
abbrev cases : List Case
cases =
    -- not "P5"
    bad "P6 1 1 97 a" 1
    -- cut off: at the length
    ∷ bad "" 0
    ∷ bad "P5 1 1" 6
    ∷ bad "P5 1 1 " 7
    -- no white space before the width: the newline goes with its comment
    ∷ bad "P5#x\n1 1 97 a" 5
    ∷ good "P5#x\n 1 1 97 a"
    -- CR ends a comment too; every white space, and more than one; leading zeros; no digit
    ∷ good "P5#x\r 1 1 97 a"
    ∷ good "P5\t1\u{b}\u{c}1\r\n97 a"
    ∷ good "P5 001 01 097 a"
    ∷ bad "P5 1 x" 5
    -- a comment in the middle of a number: 1 and 2 are 12
    ∷ good "P5 1#x\n2 1 97 aaaaaaaaaaaa"
    ∷ wrong "P5 1#x\n2 1 97 aaaaaaaaaaa" 25
    -- the comment's newline does not delimit the pixels
    ∷ bad "P5 1 1 97#x\na" 12
    ∷ good "P5 1 1 97#x\n a"
    -- maximum 0 at its first digit, also before a broken delimiter
    ∷ bad "P5 1 1 00 a" 7
    ∷ bad "P5 1 1 0a" 7
    -- maximum 256 at its first digit; a broken delimiter counts before it
    ∷ good "P5 1 1 255 a"
    ∷ bright "P5 1 1 256 a" 7
    ∷ bad "P5 1 1 256a" 10
    -- a pixel above the maximum at its place, too few pixels at the length, and of both the first
    ∷ wrong "P5 2 1 97 ab" 11
    ∷ wrong "P5 2 1 97 a" 11
    ∷ wrong "P5 3 1 97 ba" 10
    -- no pixels; what is behind them is not looked at
    ∷ good "P5 0 5 97 "
    ∷ good "P5 1 1 97 abP5"
    ∷ []

worked : map (λ (c : Case). judged (text c.file)) cases ≡ map (λ (c : Case). c.answer) cases
unfolding is_space is_digit is_hash is_line_end uncommented bytes_from first_place starts_with behind numeral digits number_in
    behind_number judge_number from_width from_height from_maximum from_delimiter width_in height_in maximum_in maximum_place
    pixels_start judge_magic judge_from_maximum judge_header judge_maximum
    sound_pixels image_pixels judge_pixels judged unless ◌then◌
worked = refl

-- an image of 2 by 1, maximum 9
one_row :
    reading (file_of 2 1 9 (7 ∷ 9 ∷ []))
    ≡ Ok (record { width = 2; height = 1; maximum = 9; start = 9 })
unfolding is_space is_digit is_hash is_line_end uncommented bytes_from first_place starts_with behind numeral digits number_in
    behind_number judge_number from_width from_height from_maximum from_delimiter width_in height_in maximum_in maximum_place
    pixels_start judge_magic judge_from_maximum judge_header judge_maximum
    sound_pixels image_pixels judge_pixels judged unless ◌then◌
    told header_in reading decimal_in decimal line header_of file_of giving
one_row = refl
