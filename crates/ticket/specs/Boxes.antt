-- The boxes of a ticket: found by a walk from head to head, each behind the field before it, whatever that field's
-- length (fields, Fields).
-- Assumes nothing.
use Rattle.std.specs.Prelude.{ℕ, zero, suc, ◌+◌, cond, List, [], ◌∷◌, length, ltb}
use Rattle.fields.specs.Fields.{head_bytes, number_at, first_box, field_end, most_boxes}
use Rattle.ticket.specs.declared.HiddenBox.{HiddenBox}

-- | 7 | 8 | hidden box: left, top, width, height |
unfoldable pub box_at : List ℕ → ℕ → HiddenBox
box_at s head =
    record {
      left = number_at s (head + head_bytes);
      top = number_at s (head + head_bytes + 2);
      width = number_at s (head + head_bytes + 4);
      height = number_at s (head + head_bytes + 6);
    }

-- the boxes from a head on, head by head, until the ticket ends; at most n
unfoldable pub boxes_from : List ℕ → ℕ → ℕ → List HiddenBox
boxes_from s head zero = []
boxes_from s head (suc n) = cond (ltb head (length s)) (box_at s head ∷ boxes_from s (field_end s head) n) []

unfoldable pub boxes_in : List ℕ → List HiddenBox
boxes_in s = boxes_from s first_box most_boxes
