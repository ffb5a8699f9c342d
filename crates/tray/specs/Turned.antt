-- The compact page, on which lines run down the rows: the page's pixels side by side, row after row, with nothing
-- between the rows. A steep page keeps its rows and columns; a shallow one is transposed, so that its columns become
-- the rows. Where the line falls, the compact columns are counted from the other end, so that it rises.
-- Assumes nothing.
use Rattle.std.specs.Prelude.{ℕ, ◌+◌, ◌-◌, ◌*◌, ◌≤◌, ◌<◌, Bool, true, false}
use Rattle.geometry.specs.Drift.{mirrored}
use Rattle.placement.specs.declared.Placement.{Placement}
use Rattle.tray.specs.declared.Layout.{Layout}
use Rattle.tray.specs.declared.Rectangle.{Rectangle}

-- Of a column and a row, or of a width and a height: the one along which the lines run ..
unfoldable pub down_of : Bool → ℕ → ℕ → ℕ
down_of true c r = r
down_of false c r = c

-- .. and the other one
unfoldable pub across_of : Bool → ℕ → ℕ → ℕ
across_of true c r = c
across_of false c r = r

-- how many rows the compact page has, and how long they are
abbrev pub compact_height : Layout → ℕ
compact_height lay = down_of lay.steep lay.width lay.height

abbrev pub compact_width : Layout → ℕ
compact_width lay = across_of lay.steep lay.width lay.height

-- of the page's pixel at column c, row r: its row and its column of the compact page
abbrev pub compact_row : Layout → ℕ → ℕ → ℕ
compact_row lay c r = down_of lay.steep c r

unfoldable pub compact_column : Layout → ℕ → ℕ → ℕ
compact_column lay c r = mirrored lay.falls (compact_width lay) (across_of lay.steep c r)

-- and its byte: r * width + mirrored falls width c, or c * height + mirrored falls height r
unfoldable pub compact_at : Layout → ℕ → ℕ → ℕ
compact_at lay c r = compact_row lay c r * compact_width lay + compact_column lay c r

-- and back: the column and the row of the pixel at row a, column b of the compact page
unfoldable pub page_column : Layout → ℕ → ℕ → ℕ
page_column lay a b = across_of lay.steep (mirrored lay.falls (compact_width lay) b) a

unfoldable pub page_row : Layout → ℕ → ℕ → ℕ
page_row lay a b = down_of lay.steep (mirrored lay.falls (compact_width lay) b) a

-- the compact page as a page of its own, at the start of its tray, with nothing between its rows
unfoldable pub compact_of : Layout → Placement
compact_of lay = record { offset = 0; width = compact_width lay; height = compact_height lay; stride = compact_width lay }

-- The row a and the column b lie in a rectangle: some rows and columns of a page, from top to just above bottom, from
-- left to just before right.
pub record InRectangle (x : Rectangle) (a b : ℕ) : Type 0 where
  pub below_top : x.top ≤ a
  pub above_bottom : a < x.bottom
  pub from_left : x.left ≤ b
  pub before_right : b < x.right

-- a box (left, top, width, height) as a rectangle of the page
unfoldable pub boxed : ℕ → ℕ → ℕ → ℕ → Rectangle
boxed left top width height = record { top = top; bottom = top + height; left = left; right = left + width }

-- where the columns from m to just before n of w are found when they are mirrored: their first, and the one past their
-- last
unfoldable pub mirrored_from : Bool → ℕ → ℕ → ℕ → ℕ
mirrored_from true w m n = w - n
mirrored_from false w m n = m

unfoldable pub mirrored_to : Bool → ℕ → ℕ → ℕ → ℕ
mirrored_to true w m n = w - m
mirrored_to false w m n = n

-- what a rectangle of the page becomes on the compact page
unfoldable pub turned_box : Layout → Rectangle → Rectangle
turned_box lay x =
    let first = across_of lay.steep x.left x.top in
    let end = across_of lay.steep x.right x.bottom in
    record {
      top = down_of lay.steep x.left x.top;
      bottom = down_of lay.steep x.right x.bottom;
      left = mirrored_from lay.falls (compact_width lay) first end;
      right = mirrored_to lay.falls (compact_width lay) first end;
    }
