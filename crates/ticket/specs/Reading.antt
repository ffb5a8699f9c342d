-- Document 01, 'Refusals and what they return': "The ticket alone may be read by a caller, with refusals 1 to 9; it
-- shows 64 box places, zero past its boxes, and at a refusal all fields and boxes are zero." What a refused ticket
-- shows is said where a ticket is shown as numbers (showing, Shown), as no refused ticket is one.
-- Assumes nothing.
use Rattle.std.specs.Prelude.{ℕ, ◌-◌, Bool, true, false, cond, List, ◌++◌, length, replicate, eqb, Result}
use Rattle.refusal.specs.Answer.{giving}
use Rattle.refusal.specs.declared.Refused.{Refused}
use Rattle.fields.specs.Fields.{operation_in, line_in, dx_in, dy_in, length_in, origin_in, phase_in, most_boxes}
use Rattle.ticket.specs.Boxes.{boxes_in}
use Rattle.ticket.specs.Judging.{judged}
use Rattle.ticket.specs.declared.HiddenBox.{HiddenBox}
use Rattle.ticket.specs.declared.LineKind.{LineKind}
use Rattle.ticket.specs.declared.LineKind.TheVariants.{Connected, Periodic}
use Rattle.ticket.specs.declared.Operation.{Operation}
use Rattle.ticket.specs.declared.Operation.TheVariants.{Erode, Dilate, Open, Close}
use Rattle.ticket.specs.declared.Ticket.{Ticket}

abbrev pub no_box : HiddenBox
no_box = record { left = 0; top = 0; width = 0; height = 0 }

-- "operation: 1 erode, 2 dilate, 3 open, 4 close", "line: 1 connected (Bresenham), 2 periodic": what a number is. A
-- number that is none of these is refused (Judging), so no ticket that is read shows what it would be here.
unfoldable pub operation_of : ℕ → Operation
operation_of n = cond (eqb n 1) Erode (cond (eqb n 2) Dilate (cond (eqb n 3) Open Close))

unfoldable pub kind_of : ℕ → LineKind
kind_of n = cond (eqb n 2) Periodic Connected

-- and the number of each
unfoldable pub operation_number : Operation → ℕ
operation_number Erode = 1
operation_number Dilate = 2
operation_number Open = 3
operation_number Close = 4

unfoldable pub line_number : LineKind → ℕ
line_number Connected = 1
line_number Periodic = 2

unfoldable pub periodic_kind : LineKind → Bool
periodic_kind Connected = false
periodic_kind Periodic = true

-- "it shows 64 box places, zero past its boxes"
unfoldable pub box_places : List HiddenBox → List HiddenBox
box_places boxes = boxes ++ replicate (most_boxes - length boxes) no_box

unfoldable pub shown : List ℕ → Ticket
shown s =
    record {
      operation = operation_of (operation_in s);
      line = kind_of (line_in s);
      dx = dx_in s;
      dy = dy_in s;
      length = length_in s;
      origin = origin_in s;
      phase = phase_in s;
      count = length (boxes_in s);
      boxes = box_places (boxes_in s);
    }

-- what the reader of a ticket answers: the ticket, or why it is refused
unfoldable pub reading : List ℕ → Result Ticket Refused
reading s = giving (judged s) (shown s)
