-- The ticket that the reader shows, field by field. Assumes nothing.
use mathlib.Core.Path.{◌≡◌}
use Prim.Native.Nat.{ℕ}
use mathlib.Core.List.{List}
use lib.IntN.{ℤ}
use lib.ListN.{length}
use Rattle.fields.specs.Fields.{operation_in, line_in, dx_in, dy_in, length_in, origin_in, phase_in}
use Rattle.ticket.specs.Boxes.{boxes_in}
use Rattle.ticket.specs.Reading.{operation_of, kind_of, box_places, shown}
use Rattle.ticket.specs.declared.HiddenBox.{HiddenBox}
use Rattle.ticket.specs.declared.LineKind.{LineKind}
use Rattle.ticket.specs.declared.Operation.{Operation}
use Rattle.ticket.specs.declared.Ticket.{Ticket}

pub fields_shown : (s : List ℕ) {operation : Operation} {line : LineKind} {reach origin phase count : ℕ} {dx dy : ℤ} {boxes : List HiddenBox}
    → operation ≡ operation_of (operation_in s)
    → line ≡ kind_of (line_in s)
    → dx ≡ dx_in s
    → dy ≡ dy_in s
    → reach ≡ length_in s
    → origin ≡ origin_in s
    → phase ≡ phase_in s
    → count ≡ length (boxes_in s)
    → boxes ≡ box_places (boxes_in s)
    → ◌≡◌ {A = Ticket}
    (record {
      operation = operation;
      line = line;
      dx = dx;
      dy = dy;
      length = reach;
      origin = origin;
      phase = phase;
      count = count;
      boxes = boxes;
    })
    (shown s)
unfolding shown
fields_shown s a b c d e f g h j =
    λ i. record {
      operation = a i;
      line = b i;
      dx = c i;
      dy = d i;
      length = e i;
      origin = f i;
      phase = g i;
      count = h i;
      boxes = j i;
    }
