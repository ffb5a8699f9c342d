-- Document 02, wish 4: "Given a job and a pixel, name the reason". A page is by its places on the two axes, as the
-- filters have it (filter, Filters): M is a pixel's place along its line and m the other. "First" is the smaller step.
-- Assumes nothing.
use Rattle.std.specs.Prelude.{ℕ, ◌+◌, ◌-◌, Bool, true, false, not, cond, List, eqb}
use Rattle.std.proofs.Math.Option.{Option, none, some}
use Rattle.geometry.specs.Drift.{first}
use Rattle.geometry.specs.Line.{landing, step_of, major_at}
use Rattle.geometry.specs.declared.Line.{Line}
use Rattle.ticket.specs.declared.HiddenBox.{HiddenBox}
use Rattle.ticket.specs.declared.Operation.{Operation}
use Rattle.ticket.specs.declared.Operation.TheVariants.{Erode, Dilate, Open, Close}
use Rattle.ticket.specs.declared.Ticket.{Ticket}
use Rattle.boxes.specs.Boxes.{covers, hidden, boxes_of}
use Rattle.boxes.specs.First.{first_of}
use Rattle.placement.specs.Placement.{pixel_in}
use Rattle.placement.specs.declared.Placement.{Placement}
use Rattle.tray.specs.Turned.{down_of, across_of}
use Rattle.filter.specs.Seen.{View, seen, turned, runs_steep}
use Rattle.filter.specs.Engine.{back_of}
use Rattle.filter.specs.Filters.{in_window, eroded, dilated}
use Rattle.filter.specs.declared.Segment.{Segment}
use Rattle.job.specs.Job.{finished}
use Rattle.job.specs.Order.{line_of, segment_of}
use Rattle.nearby.specs.declared.Pixel.{Pixel}
use Rattle.why.specs.declared.Reason.{Reason}

-- ---- the first step of a window

-- whether a step has the grey w: an absent one has none
unfoldable pub has : ℕ → Option ℕ → Bool
has w none = false
has w (some v) = eqb v w

-- which of the n steps of the window of (M, m) that begins a steps before it is the first that has w, counted from 0
unfoldable pub first_with : Line → View → ℕ → ℕ → ℕ → ℕ → ℕ → ℕ
first_with l page a n w M m = first (λ k. has w (in_window l page a M m k)) 0 n

-- a place on the minor axis; the named steps are on the page and have one
unfoldable pub place_of : Option ℕ → ℕ
place_of none = 0
place_of (some m) = m

-- the pixel at step s of the line through (M, m), by column and row
unfoldable pub pixel_at : Line → ℕ → ℕ → ℕ → Pixel
pixel_at l M m s =
    let major = major_at l M s in
    let minor = place_of (landing l m (step_of l M) s) in
    record { column = down_of (runs_steep l) major minor; row = across_of (runs_steep l) major minor }

-- "the first unhidden step in the window whose value is the result": of the pixel at column and row, in a page
unfoldable pub named : Line → View → ℕ → ℕ → ℕ → Pixel → Pixel
named l page a n w at =
    let M = down_of (runs_steep l) at.column at.row in
    let m = across_of (runs_steep l) at.column at.row in
    pixel_at l M m (step_of l M + first_with l page a n w M m - a)

-- ---- the passes of an operation

-- erosion and opening begin by taking the lowest
unfoldable pub starts_low : Operation → Bool
starts_low Erode = true
starts_low Dilate = false
starts_low Open = true
starts_low Close = false

unfoldable pub passes_twice : Operation → Bool
passes_twice Erode = false
passes_twice Dilate = false
passes_twice Open = true
passes_twice Close = true

-- the page after the first pass: "Opening erodes, then dilates the eroded page; closing does the reverse"
unfoldable pub first_pass_of : Operation → Segment → View → View
first_pass_of n s page = cond (starts_low n) (eroded s page) (dilated s page)

-- ---- the reason

-- the kinds: 2 is left for a kept box
abbrev pub hidden_box : ℕ
hidden_box = 1

abbrev pub one_pass : ℕ
one_pass = 3

abbrev pub two_passes : ℕ
two_passes = 4

-- a reason without steps, and none at all
unfoldable pub without_steps : ℕ → ℕ → Reason
without_steps kind number =
    record {
      kind = kind;
      number = number;
      phase = 0;
      through = record { column = 0; row = 0 };
      from = record { column = 0; row = 0 };
    }

abbrev pub no_reason : Reason
no_reason = without_steps 0 0

-- "for one pass, the first unhidden step in the window whose value is the result"
unfoldable pub by_one_pass : Operation → Segment → View → ℕ → Pixel → Reason
by_one_pass n s page w at =
    record {
      kind = one_pass;
      number = 0;
      phase = s.line.phase;
      through = at;
      from = named s.line page (back_of s (starts_low n)) s.length w at;
    }

-- "for two passes, the first unhidden step of the second window that gives the result": after the first pass it has the
-- result; "then the first unhidden step in that one's own window that gave it"
unfoldable pub by_two_passes : Operation → Segment → View → ℕ → Pixel → Reason
by_two_passes n s page w at =
    let through = named s.line (first_pass_of n s page) (back_of s (not (starts_low n))) s.length w at in
    record {
      kind = two_passes;
      number = 0;
      phase = s.line.phase;
      through = through;
      from = named s.line page (back_of s (starts_low n)) s.length w through;
    }

-- the page that a ticket's filter sees in a tray, by the axes of its line
unfoldable pub seen_by : Ticket → Placement → List ℕ → View
seen_by t p tray =
    turned (runs_steep (line_of t)) (seen (boxes_of t) p.width p.height (pixel_in tray p))

-- the reason for an unhidden pixel: the result is what the finished page has there
unfoldable pub by_steps : Ticket → Placement → List ℕ → Pixel → Reason
by_steps t p tray at =
    let w = finished t p tray at.column at.row in
    cond (passes_twice t.operation)
    (by_two_passes t.operation (segment_of t) (seen_by t p tray) w at)
    (by_one_pass t.operation (segment_of t) (seen_by t p tray) w at)

-- "For a hidden pixel, the first box that holds it."
unfoldable pub by_box : Ticket → Pixel → Reason
by_box t at = without_steps hidden_box (first_of (λ (b : HiddenBox). covers b at.column at.row) (boxes_of t))

unfoldable pub reason_of : Ticket → Placement → List ℕ → Pixel → Reason
reason_of t p tray at = cond (hidden (boxes_of t) at.column at.row) (by_box t at) (by_steps t p tray at)
