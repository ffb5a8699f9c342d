-- A P5 file as it is read: its first image. Document 02, wish 1: "17, pixel above the maximum or too few pixels; in
-- this order", "Only a file's first image is read."
-- Assumes nothing.
use Rattle.std.specs.Prelude.{ℕ, suc, ◌+◌, ◌*◌, min, cond, Result, List, [], ◌∷◌, take, drop, leb, eqb}
use Rattle.refusal.specs.Answer.{Answer, giving}
use Rattle.refusal.specs.Chain.{unless, ◌then◌}
use Rattle.refusal.specs.declared.Later.TheVariants.{BadPixel}
use Rattle.refusal.specs.declared.Refusal.TheVariants.{Later}
use Rattle.refusal.specs.declared.Refused.{Refused}
use Rattle.pgm.specs.Header.{width_in, height_in, maximum_in, pixels_start, judge_header, judge_maximum}
use Rattle.pgm.specs.declared.Header.{Header}

-- how many pixels stand before the first above the maximum, or before the end
unfoldable pub sound_pixels : ℕ → List ℕ → ℕ
sound_pixels maximum [] = 0
sound_pixels maximum (b ∷ bytes) = cond (leb b maximum) (suc (sound_pixels maximum bytes)) 0

-- the image's pixels, as many of them as the file has: "the first w·h pixel bytes", row by row
unfoldable pub image_pixels : List ℕ → List ℕ
image_pixels file = take (width_in file * height_in file) (drop (pixels_start file) file)

-- "the first above the maximum, else the file's length if there are fewer"
unfoldable pub judge_pixels : List ℕ → Answer
judge_pixels file =
    unless
    (eqb (sound_pixels (maximum_in file) (image_pixels file)) (width_in file * height_in file))
    (Later BadPixel)
    (pixels_start file + sound_pixels (maximum_in file) (image_pixels file))

-- 15, 16, 17, "in this order"
unfoldable pub judged : List ℕ → Answer
judged file = judge_header file then judge_maximum file then judge_pixels file

-- the largest number of 64 bits
abbrev pub largest : ℕ
largest = 18446744073709551615

-- a side as it is told in 64 bits: one beyond them as the largest number there, which no page has
unfoldable pub told : ℕ → ℕ
told n = min n largest

unfoldable pub header_in : List ℕ → Header
header_in file =
    record {
      width = told (width_in file);
      height = told (height_in file);
      maximum = maximum_in file;
      start = pixels_start file;
    }

-- what is read of a file: its header, or the refusal
unfoldable pub reading : List ℕ → Result Header Refused
reading file = giving (judged file) (header_in file)
