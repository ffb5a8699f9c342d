-- What the code keeps in the scratch: the page in normal form, with the neutral value where a pixel is absent. Nothing
-- here is needed to read what a filter does (Filters, Promises); the contracts of the functions below it cite it.
-- Assumes nothing.
use Rattle.std.specs.Prelude.{◌≡◌, Bool, true, false, not, List, ℕ, ◌+◌, ◌-◌, ◌*◌, ◌≤◌, ◌<◌, length, get_or}
use Rattle.std.proofs.Math.Option.{Option, none, some}
use Rattle.boxes.specs.Boxes.{hidden}
use Rattle.geometry.specs.Line.{period}
use Rattle.geometry.specs.Drift.{Allowed, falls, mirrored, drift, reach}
use Rattle.runs.specs.Grid.{Page, Tabled}
use Rattle.runs.specs.declared.Grid.{Grid}
use Rattle.hiding.specs.Hiding.{BoxesLie}
use Rattle.placement.specs.Placement.{pixel_in, Placed}
use Rattle.placement.specs.declared.Placement.{Placement}
use Rattle.tray.specs.Turned.{across_of, down_of, compact_height, compact_width, compact_at}
use Rattle.tray.specs.declared.Layout.{Layout}
use Rattle.filter.specs.Seen.{View, runs_steep, turned}
use Rattle.filter.specs.Filters.{dilation_back, pass, recipe_boxes, filtered_page}
use Rattle.filter.specs.Work.{pass_work, work_of}
use Rattle.filter.specs.declared.Recipe.{Recipe}
use Rattle.filter.specs.declared.Segment.{Segment}

-- the value that no byte loses against
unfoldable pub neutral : Bool → ℕ
neutral true = 255
neutral false = 0

unfoldable pub or_neutral : Bool → Option ℕ → ℕ
or_neutral low none = neutral low
or_neutral low (some v) = v

-- off the page there is nothing
pub record Absent (H W : ℕ) (page : View) : Type 0 where
  pub below : (M m : ℕ) → H ≤ M → page M m ≡ none
  pub beside : (M m : ℕ) → W ≤ m → page M m ≡ none

-- what is there is a byte
unfoldable pub Bytes : View → Type 0
Bytes page = (M m v : ℕ) → page M m ≡ some v → v ≤ 255

-- a page of plain numbers in normal form shows the page
unfoldable pub Shows : Grid → View → Page → Type 0
Shows g page f =
    (M m : ℕ) → M < g.height → m < g.width
    → f M (mirrored (falls g.line) g.width m) ≡ or_neutral g.low (page M m)

-- ---- the segment's line on the page in normal form

abbrev pub steep_of : Recipe → Bool
steep_of how = runs_steep how.segment.line

abbrev pub falls_of : Recipe → Bool
falls_of how = falls how.segment.line

-- how far a window begins before its pixel: in an erosion, in a dilation
unfoldable pub back_of : Segment → Bool → ℕ
back_of s true = s.origin
back_of s false = dilation_back s

-- one pass of a recipe, and its comparisons
abbrev pub passed : Recipe → Bool → View → View
passed how low page = pass low how.segment.line (back_of how.segment low) how.segment.length page

abbrev pub pass_cost : Recipe → Layout → Bool → ℕ
pass_cost how lay low =
    pass_work how.segment.line (compact_height lay) (compact_width lay) how.segment.length
    (back_of how.segment low)

-- two passes, of which the second takes the other extreme
abbrev pub passed_twice : Recipe → Bool → View → View
passed_twice how opens page = passed how (not opens) (passed how opens page)

abbrev pub twice_cost : Recipe → Layout → Bool → ℕ
twice_cost how lay opens = pass_cost how lay opens + pass_cost how lay (not opens)

-- how its page is laid out in the scratch
abbrev pub layout_of : Recipe → ℕ → ℕ → Layout
layout_of how width height = record { steep = steep_of how; falls = falls_of how; width = width; height = height }

unfoldable pub grid_of : Recipe → ℕ → ℕ → Bool → Grid
grid_of how width height low =
    record {
      line = how.segment.line;
      width = across_of (steep_of how) width height;
      height = down_of (steep_of how) width height;
      period = period how.segment.line;
      back = back_of how.segment low;
      on = how.segment.length - 1 - back_of how.segment low;
      length = how.segment.length;
      low = low;
    }

-- ---- the scratch

-- a pixel's byte in the scratch
abbrev pub scratch_place : Recipe → ℕ → ℕ → ℕ → ℕ → ℕ
scratch_place how width height c r = compact_at (layout_of how width height) c r

-- the scratch holds a page: nothing is there where a box hides, and what is there stands at its place
pub record Held (how : Recipe) (width height : ℕ) (page : View) (scratch : List ℕ) : Type 0 where
  pub absent : Absent (down_of (steep_of how) width height) (across_of (steep_of how) width height) page
  pub bytes : Bytes page
  pub none_there : (r : ℕ) → r < height → (c : ℕ) → c < width → hidden (recipe_boxes how) c r ≡ true
      → turned (steep_of how) page c r ≡ none
  pub one_there :
      (r : ℕ) → r < height → (c : ℕ) → c < width → hidden (recipe_boxes how) c r ≡ false
      → turned (steep_of how) page c r ≡ some (get_or scratch (scratch_place how width height c r) 0)

-- ---- one pass

-- a segment within its limits
pub record Fair (s : Segment) : Type 0 where
  pub line : Allowed s.line
  pub length_from : 1 ≤ s.length
  pub length_to : s.length ≤ 8192
  pub origin_below : s.origin < s.length

-- what a pass asks: a segment and a page within its limits with its boxes, the line's tables, and room for two pages
pub record PassReady (how : Recipe) (lay : Layout) (profile reaches : List ℕ) (room : ℕ) : Type 0 where
  pub segment : Fair how.segment
  pub laid : lay ≡ layout_of how lay.width lay.height
  pub count_most : how.count ≤ 64
  pub boxes : BoxesLie (recipe_boxes how) lay
  pub tables : (low : Bool) → Tabled (grid_of how lay.width lay.height low) profile reaches
  pub two_pages : lay.width * lay.height + lay.width * lay.height ≤ room

-- what it leaves: the page filtered, and nothing behind the two pages changed, with at most so many comparisons a pixel
pub record PassDone (how : Recipe) (lay : Layout) (filter : View → View) (work most : ℕ) (before after : List ℕ)
    (count : ℕ) : Type 0 where
  pub same_length : length after ≡ length before
  pub rest : (i : ℕ) → lay.width * lay.height + lay.width * lay.height ≤ i → get_or after i 0 ≡ get_or before i 0
  pub page : (page : View) → Held how lay.width lay.height page before
      → Held how lay.width lay.height (filter page) after
  pub counted : count ≡ work
  pub few : count ≤ most * (lay.width * lay.height)

-- ---- a page taken in

-- the line's tables, n entries long
pub record Tables (how : Recipe) (n : ℕ) (profile reaches : List ℕ) : Type 0 where
  pub profile_size : length profile ≡ n
  pub reaches_size : length reaches ≡ n
  pub profile_is : (i : ℕ) → i < n → get_or profile i 0 ≡ drift how.segment.line i
  pub reaches_is : (v : ℕ) → v < n → get_or reaches v 0 ≡ reach how.segment.line v n

-- the page lies in its buffer, the boxes lie on the page, and the scratch has room for two pages
pub record Enters (how : Recipe) (from : Placement) (source scratch : ℕ) : Type 0 where
  pub segment : Fair how.segment
  pub count_most : how.count ≤ 64
  pub boxes : BoxesLie (recipe_boxes how) (layout_of how from.width from.height)
  pub from_tray : Placed from source
  pub room : from.width * from.height + from.width * from.height ≤ scratch

-- the filtered page stands in the scratch
pub record Ready (how : Recipe) (from : Placement) (source before after : List ℕ) (work : ℕ) : Type 0 where
  pub same_length : length after ≡ length before
  pub rest : (i : ℕ) → from.width * from.height + from.width * from.height ≤ i → get_or after i 0 ≡ get_or before i 0
  pub pixel :
      (r : ℕ) → r < from.height → (c : ℕ) → c < from.width
      → get_or after (scratch_place how from.width from.height c r) 0
      ≡ filtered_page how from.width from.height (pixel_in source from) c r
  pub work_is : work ≡ work_of how.operation how.segment from.width from.height
  pub work_few : work ≤ 6 * (from.width * from.height)
