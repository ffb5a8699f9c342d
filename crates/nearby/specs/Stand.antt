-- Demand 3: a pixel depends only on unhidden pixels "of its own line fewer than L steps away". They stand in a row: its
-- place i is the step of the pixel's line that is i steps after the one `reach` steps before the pixel.
-- Assumes nothing.
use Rattle.std.specs.Prelude.{ℕ, ◌+◌, ◌-◌, cond, leb, ltb}
use Rattle.std.proofs.Math.Option.{Option, none, some}
use Rattle.geometry.specs.Line.{landing, step_of, major_at}
use Rattle.geometry.specs.declared.Line.{Line}
use Rattle.tray.specs.Turned.{down_of, across_of}
use Rattle.filter.specs.Seen.{View, runs_steep}
use Rattle.filter.specs.Filters.{in_window}
use Rattle.nearby.specs.declared.Pixel.{Pixel}
use Rattle.nearby.specs.declared.Standing.{Standing}

-- a pixel of a page with these sides, by the axes of its line
unfoldable pub standing_of : Line → ℕ → ℕ → ℕ → Pixel → Standing
standing_of l reach width height at =
    record {
      line = l;
      steep = runs_steep l;
      reach = reach;
      high = down_of (runs_steep l) width height;
      wide = across_of (runs_steep l) width height;
      major = down_of (runs_steep l) at.column at.row;
      minor = across_of (runs_steep l) at.column at.row;
    }

-- the step of the line at place i of the row; there is none before the line's step 0
unfoldable pub step_in : Standing → ℕ → ℕ
step_in s i = step_of s.line s.major + i - s.reach

-- a place of a side, or the side itself for one beyond it
unfoldable pub on_side : ℕ → ℕ → ℕ
on_side side n = cond (ltb n side) n side

-- where it is on the axis along which the line runs, or the page's side where it is not on the page
unfoldable pub major_in : Standing → ℕ → ℕ
major_in s i =
    cond (leb s.reach (step_of s.line s.major + i))
    (on_side s.high (major_at s.line s.major (step_in s i)))
    s.high

unfoldable pub landed : ℕ → Option ℕ → ℕ
landed side none = side
landed side (some m) = on_side side m

-- and on the other axis
unfoldable pub minor_in : Standing → ℕ → ℕ
minor_in s i = landed s.wide (landing s.line s.minor (step_of s.line s.major) (step_in s i))

-- a pixel by its places on the two axes
unfoldable pub pixel_by : Standing → ℕ → ℕ → Pixel
pixel_by s M m = record { column = down_of s.steep M m; row = across_of s.steep M m }

-- the pixel at place i of the row, or one that is off the page
unfoldable pub pixel_in : Standing → ℕ → Pixel
pixel_in s i = cond (leb s.high (major_in s i)) (pixel_by s s.high s.wide) (pixel_by s (major_in s i) (minor_in s i))

-- what a page, by the axes, has at place i of the row
unfoldable pub near_at : Standing → View → ℕ → Option ℕ
near_at s page i = in_window s.line page s.reach s.major s.minor i
