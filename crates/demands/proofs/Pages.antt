-- The page in a tray as the filter of a ticket sees it, and the finished page by the axes of the ticket's line.
-- Assumes nothing.
use mathlib.Core.Path.{◌≡◌, ap, ◌∙◌}
use mathlib.Core.Bool.{true, false}
use mathlib.Core.Option.{none, some}
use mathlib.Core.List.{List}
use Prim.Native.Nat.{ℕ, ◌<◌}
use Rattle.ticket.specs.declared.Ticket.{Ticket}
use Rattle.boxes.specs.Boxes.{hidden, boxes_of}
use Rattle.placement.specs.Placement.{pixel_in}
use Rattle.placement.specs.declared.Placement.{Placement}
use Rattle.filter.specs.Seen.{View, seen, turned, runs_steep}
use Rattle.filter.specs.Axes.{turned_is}
use Rattle.filter.specs.Filters.{operated, filtered, or_white}
use Rattle.filter.proofs.Absence.{seen_hidden, seen_shown}
use Rattle.job.specs.Order.{line_of, segment_of}
use Rattle.job.specs.Job.{finished_with}
use Rattle.job.specs.Laws.{finished_is}
use Rattle.demands.specs.Near.{major_place, minor_place}

-- the page by column and row
abbrev pub seen_in : Ticket → Placement → List ℕ → View
seen_in t p tray = seen (boxes_of t) p.width p.height (pixel_in tray p)

-- the same page by its places on the axes
abbrev pub along_in : Ticket → Placement → List ℕ → View
along_in t p tray = turned (runs_steep (line_of t)) (seen_in t p tray)

module _ (t : Ticket) (p : Placement) (tray : List ℕ) (c r : ℕ) where
  -- the finished page is the filter of that page, at the pixel's places on the axes
  pub finished_at :
      (white : ℕ) → finished_with white t p tray c r
      ≡ or_white white
      (operated t.operation (segment_of t) (along_in t p tray) (major_place (line_of t) c r) (minor_place (line_of t) c r))
  unfolding filtered segment_of
  finished_at white =
      finished_is white t p tray c r
      ∙ ap (or_white white)
      (turned_is (runs_steep (line_of t)) (operated t.operation (segment_of t) (along_in t p tray)) c r)

  -- a pixel of the page in no box is there,
  pub seen_there :
      c < p.width → r < p.height → hidden (boxes_of t) c r ≡ false → seen_in t p tray c r ≡ some (pixel_in tray p c r)
  seen_there c_in r_in shown = seen_shown (boxes_of t) p.width p.height (pixel_in tray p) c r c_in r_in shown

  -- and a hidden one is absent
  pub seen_none : hidden (boxes_of t) c r ≡ true → seen_in t p tray c r ≡ none
  seen_none e = seen_hidden (boxes_of t) p.width p.height (pixel_in tray p) c r e
