-- The flip of case 12 of document 01, a dilation along (2, 1), with a box over the first two pixels of its first row:
-- along (2, -1), with the box over those of its last row, the ticket is read, and is the flipped one.
-- Assumes nothing.
use mathlib.Core.Path.{◌≡◌, refl}
use Rattle.refusal.specs.Answer.{done_with}
use mathlib.Core.List.{List, [], ◌∷◌, ◌++◌, map}
use Prim.Native.Nat.{ℕ}
use Rattle.vectors.specs.Vector.{shallow, steep}
use Rattle.geometry.specs.Flip.{flipped}
use Rattle.refusal.specs.Chain.{unless, ◌then◌}
use Rattle.fields.specs.Fields.{byte_at, number_at, signed16, signed_at, operation_in, line_in, dx_in, dy_in, length_in}
use Rattle.fields.specs.Fields.{origin_in, phase_in, field_end}
use Rattle.fields.specs.Vectors.{divided, coprime, vector_allowed, phase_allowed}
use Rattle.ticket.specs.Boxes.{box_at, boxes_from, boxes_in}
use Rattle.ticket.specs.Judging.{judge_head, judge_size, judge_field, operation_known, line_known, is_periodic}
use Rattle.ticket.specs.Judging.{length_allowed, origin_allowed}
use Rattle.ticket.specs.Judging.{judge_operation, judge_line, judge_vector, judge_length, judge_origin, judge_phase, judge_box}
use Rattle.ticket.specs.Judging.{judge_boxes, judged}
use Rattle.ticket.specs.Reading.{kind_of, operation_of, periodic_kind, box_places, shown}
use Rattle.boxes.specs.Boxes.{boxes_of}
use Rattle.filter.specs.Seen.{runs_steep}
use Rattle.job.specs.Order.{line_of}
use Rattle.demands.specs.Flip.{flipped_box, FlippedTicket}

-- a connected dilation along (2, dy) with L 2 and o 1, and a box two pixels wide and one high in row top
abbrev ticket : List ℕ → ℕ → List ℕ
ticket dy top =
    (1 ∷ 0 ∷ 1 ∷ 2 ∷ 2 ∷ 0 ∷ 1 ∷ 1 ∷ 3 ∷ 0 ∷ 4 ∷ 0 ∷ 2 ∷ dy)
    ++ (4 ∷ 0 ∷ 2 ∷ 0 ∷ 2 ∷ 5 ∷ 0 ∷ 2 ∷ 0 ∷ 1 ∷ 6 ∷ 0 ∷ 2 ∷ 0 ∷ 0
    ∷ 7 ∷ 0 ∷ 8 ∷ 0 ∷ 0 ∷ 0 ∷ top ∷ 0 ∷ 2 ∷ 0 ∷ 1 ∷ [])

abbrev rising : List ℕ
rising = ticket (0 ∷ 1 ∷ []) 0

abbrev falling : List ℕ
falling = ticket (255 ∷ 255 ∷ []) 2

both_read : map judged (rising ∷ falling ∷ []) ≡ done_with 0 ∷ done_with 0 ∷ []
unfolding unless ◌then◌ shallow steep byte_at number_at signed16 signed_at operation_in line_in dx_in dy_in length_in origin_in
    phase_in field_end judge_head judge_size judge_field operation_known line_known is_periodic divided coprime vector_allowed
    length_allowed origin_allowed phase_allowed judge_operation judge_line judge_vector judge_length judge_origin judge_phase
    judge_box judge_boxes judged
both_read = refl

falling_flips_rising : FlippedTicket 3 3 (shown rising) (shown falling)
unfolding steep flipped byte_at number_at signed16 signed_at operation_in line_in dx_in dy_in length_in origin_in phase_in
    field_end box_at boxes_from boxes_in periodic_kind box_places operation_of kind_of shown boxes_of runs_steep line_of flipped_box
falling_flips_rising = record { operation = refl; line = refl; length = refl; origin = refl; boxes = refl }
