-- What the functions of a row ask and promise.
-- Assumes nothing.
use Rattle.std.specs.Prelude.{◌≡◌, List, ℕ, ◌≤◌, ◌<◌, length, get_or, Option}
use Rattle.geometry.specs.Drift.{Allowed}
use Rattle.geometry.specs.Tables.{ProfileTable}
use Rattle.ticket.specs.declared.HiddenBox.{HiddenBox}
use Rattle.ticket.specs.declared.Ticket.{Ticket}
use Rattle.boxes.specs.Boxes.{boxes_of}
use Rattle.placement.specs.Placement.{Placed, pixel_in}
use Rattle.placement.specs.declared.Placement.{Placement}
use Rattle.tray.specs.Turned.{down_of, across_of}
use Rattle.filter.specs.Seen.{seen, turned, runs_steep}
use Rattle.finding.specs.Row.{absent, value_of}
use Rattle.nearby.specs.Stand.{near_at}
use Rattle.nearby.specs.declared.Standing.{Standing}

-- a pixel of a page within its limits, on a line that a ticket may order
pub record Stands (s : Standing) : Type 0 where
  pub allowed : Allowed s.line
  pub steep_is : s.steep ≡ runs_steep s.line
  pub reach_near : s.reach < 8192
  pub high_near : s.high ≤ 8192
  pub wide_near : s.wide ≤ 8192
  pub major_in_lem : s.major < s.high
  pub minor_in_lem : s.minor < s.wide

-- the line's drift, tabled for the whole page
pub record Tabled (s : Standing) (profile : List ℕ) : Type 0 where
  pub tabled : ProfileTable s.line profile
  pub room : s.high ≤ length profile

-- the page that the pixel is of stands in a tray of so many bytes
pub record OnPage (s : Standing) (p : Placement) (bytes : ℕ) : Type 0 where
  pub placed : Placed p bytes
  pub high_is : s.high ≡ down_of s.steep p.width p.height
  pub wide_is : s.wide ≡ across_of s.steep p.width p.height

-- and the boxes of a ticket can be lent
pub record OfPage (t : Ticket) (s : Standing) (p : Placement) (bytes : ℕ) : Type 0 where
  pub page : OnPage s p bytes
  pub count_near : t.count ≤ 64

-- the row has what a filter sees near the pixel, where these boxes hide
pub record RowAmong (boxes : List HiddenBox) (s : Standing) (p : Placement) (tray : List ℕ) (row : List (Option ℕ))
    : Type 0 where
  pub near : (i : ℕ) → i < length row
      → get_or row i absent
      ≡ value_of (near_at s (turned s.steep (seen boxes p.width p.height (pixel_in tray p))) i)

-- and where those of a ticket do
abbrev pub RowNear : Ticket → Standing → Placement → List ℕ → List (Option ℕ) → Type 0
RowNear t = RowAmong (boxes_of t)
