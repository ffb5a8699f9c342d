-- What the functions of a question ask of one another.
-- Assumes nothing.
use Rattle.std.specs.Prelude.{ℕ, ◌-◌, ◌≤◌, ◌<◌, cond, List, length, Option, IsSome}
use Rattle.ticket.specs.Laws.{Allowed}
use Rattle.ticket.specs.declared.Ticket.{Ticket}
use Rattle.placement.specs.Placement.{Placed}
use Rattle.placement.specs.declared.Placement.{Placement}
use Rattle.filter.specs.Engine.{back_of}
use Rattle.job.specs.Order.{segment_of}
use Rattle.finding.specs.Row.{result_of, hit_of}
use Rattle.finding.specs.Promises.{Fits}
use Rattle.finding.specs.declared.Search.{Search}
use Rattle.nearby.specs.Stand.{pixel_in}
use Rattle.nearby.specs.Promises.{Stands, Tabled}
use Rattle.nearby.specs.declared.Pixel.{Pixel}
use Rattle.nearby.specs.declared.Standing.{Standing}
use Rattle.why.specs.Reason.{starts_low, passes_twice, one_pass, two_passes}
use Rattle.why.specs.declared.Reason.{Reason}

-- a ticket that was read, a page that stands in a tray of so many bytes, and a pixel of it
pub record Asked (t : Ticket) (p : Placement) (bytes : ℕ) (at : Pixel) : Type 0 where
  pub ticket : Allowed t
  pub placed : Placed p bytes
  pub column_in : at.column < p.width
  pub row_in : at.row < p.height

-- what is looked over in the row of the values near the pixel, which begins L - 1 steps before it: the second window,
-- or for one pass the pixel alone
unfoldable pub search_of : Ticket → Search
search_of t =
    let low = starts_low t.operation in
    let back = back_of (segment_of t) low in
    record {
      low = low;
      back = back;
      length = t.length;
      from = cond (passes_twice t.operation) back (t.length - 1);
      steps = cond (passes_twice t.operation) t.length 1;
    }

-- the reason that a row's first hit names
unfoldable pub reason_in : Ticket → Standing → List (Option ℕ) → Reason
reason_in t s row =
    let hit = hit_of (search_of t) row in
    record {
      kind = cond (passes_twice t.operation) two_passes one_pass;
      number = 0;
      phase = t.phase;
      through = pixel_in s hit.through;
      from = pixel_in s hit.from;
    }

-- a row in which a search finds something, and the pixels of its places can be told
pub record Searched (t : Ticket) (s : Standing) (profile : List ℕ) (row : List (Option ℕ)) : Type 0 where
  pub ticket : Allowed t
  pub stands : Stands s
  pub tabled : Tabled s profile
  pub fits : Fits (search_of t) (length row)
  pub short : length row ≤ 16383
  pub result : IsSome (result_of (search_of t) row)
