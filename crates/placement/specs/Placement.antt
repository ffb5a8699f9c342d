-- Document 01, 'Placing a page': "A placement is offset, width w, height h and stride."
-- Everything is said over whole numbers, so an offset near the largest 64-bit number does not wrap.
-- Assumes nothing.
use Rattle.std.specs.Prelude.{ℕ, ◌+◌, ◌-◌, ◌*◌, ◌/◌, ◌%◌, ◌≤◌, max, Bool, ◌&&◌, List, get_or, leb, ltb}
use Rattle.placement.specs.declared.Placement.{Placement}
use Rattle.placement.specs.declared.Placements.{Placements}

-- where a row starts: this, and column_of and row_of, which read it backwards, are the one place that says in which order
-- the rows stand. Others know it by its laws only.
unfoldable pub row_start : Placement → ℕ → ℕ
row_start p r = p.offset + r * p.stride

-- "The pixel at column c, row r is byte offset + r·stride + c."
unfoldable pub byte_of : Placement → ℕ → ℕ → ℕ
byte_of p c r = row_start p r + c

unfoldable pub pixel_in : List ℕ → Placement → ℕ → ℕ → ℕ
pixel_in tray p c r = get_or tray (byte_of p c r) 0

-- the column and the row that a byte of the tray would have: offset + r·stride + c, read backwards
unfoldable pub column_of : Placement → ℕ → ℕ
column_of p at = (at - p.offset) % p.stride

unfoldable pub row_of : Placement → ℕ → ℕ
row_of p at = (at - p.offset) / p.stride

-- whether a byte of the tray is one of the page
unfoldable pub inside : Placement → ℕ → Bool
inside p at = leb p.offset at && (ltb (column_of p at) p.width && ltb (row_of p at) p.height)

abbrev pub longest_side : ℕ
longest_side = 8192

abbrev pub longest_stride : ℕ
longest_stride = 16384

-- "Limits: w and h 1 to 8192, stride from w to 16384."
unfoldable pub side_allowed : ℕ → Bool
side_allowed n = leb 1 n && leb n longest_side

unfoldable pub allowed : Placement → Bool
allowed p =
    side_allowed p.width && side_allowed p.height && (leb p.width p.stride && leb p.stride longest_stride)

-- "A page fits if offset + (h-1)·stride + w is at most the tray's length, over whole numbers."
unfoldable pub fits : Placement → ℕ → Bool
fits p length = leb (p.offset + (p.height - 1) * p.stride + p.width) length

-- a page within the limits, in a tray of n bytes that it fits
pub record Placed (p : Placement) (n : ℕ) : Type 0 where
  pub width_least : 1 ≤ p.width
  pub width_most : p.width ≤ longest_side
  pub height_least : 1 ≤ p.height
  pub height_most : p.height ≤ longest_side
  pub stride_least : p.width ≤ p.stride
  pub stride_most : p.stride ≤ longest_stride
  pub fitting : p.offset + (p.height - 1) * p.stride + p.width ≤ n

-- "Source and output pages share w and h; each has its own offset and stride."
unfoldable pub source_page : Placements → Placement
source_page p = record { offset = p.source.offset; width = p.width; height = p.height; stride = p.source.stride }

unfoldable pub output_page : Placements → Placement
output_page p = record { offset = p.output.offset; width = p.width; height = p.height; stride = p.output.stride }

-- "Scratch needed: 2·w·h + 3·max(w, h) bytes.": said for any number of pages; with 2 it is the sentence
unfoldable pub scratch_needed : ℕ → ℕ → ℕ → ℕ
scratch_needed pages w h = pages * w * h + 3 * max w h

-- no job keeps more pages there
abbrev pub most_pages : ℕ
most_pages = 3
