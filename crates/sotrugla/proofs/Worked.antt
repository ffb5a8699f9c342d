-- Values of the definitions that hosts meet: the scratch of a page, and what a ticket hides.
-- Assumes nothing.
use Rattle.std.specs.Prelude.{◌≡◌, refl, [], ◌∷◌, ◌++◌}
use Rattle.vectors.specs.Vector.{shallow, steep}
use Rattle.refusal.specs.Answer.{when_done}
use Rattle.refusal.specs.Chain.{unless, ◌then◌}
use Rattle.fields.specs.Fields.{byte_at, number_at, signed16, signed_at, operation_in, line_in, dx_in, dy_in, length_in}
use Rattle.fields.specs.Fields.{origin_in, phase_in, field_end}
use Rattle.fields.specs.Vectors.{divided, coprime, vector_allowed, phase_allowed}
use Rattle.ticket.specs.Boxes.{box_at, boxes_from, boxes_in}
use Rattle.ticket.specs.Judging.{judge_head, judge_size, judge_field, operation_known, line_known, is_periodic, length_allowed}
use Rattle.ticket.specs.Judging.{origin_allowed, judge_operation, judge_line, judge_vector, judge_length, judge_origin}
use Rattle.ticket.specs.Judging.{judge_phase, judge_box, judge_boxes, judged}
use Rattle.ticket.specs.Reading.{operation_of, kind_of, box_places, shown}
use Rattle.placement.specs.Placement.{side_allowed, scratch_needed}
use Rattle.boxes.specs.Boxes.{covers, hidden, boxes_of}
use Rattle.sotrugla.specs.Hiding.{hidden_by}
use Rattle.sotrugla.specs.Pages.{scratch_for}
use Rattle.showing.specs.Worked.{opening}

-- a page of 16 by 5, and sides beyond their limits
scratches : (scratch_for 16 5 ∷ scratch_for 8193 1 ∷ scratch_for 1 0 ∷ []) ≡ (208 ∷ 0 ∷ 0 ∷ [])
unfolding side_allowed scratch_needed
scratches = refl

-- the box of the opening that is shown in `showing` is columns 6 to 261 of row 3; with a byte too many the ticket is
-- refused, and hides nothing
hides : (hidden_by opening 6 3 ∷ hidden_by opening 261 3 ∷ hidden_by opening 5 3 ∷ hidden_by opening 262 3 ∷ hidden_by opening 6 2 ∷ hidden_by opening 6 4 ∷ hidden_by opening 3 6 ∷ hidden_by (opening ++ (7 ∷ [])) 6 3 ∷ [])
    ≡ (1 ∷ 1 ∷ 0 ∷ 0 ∷ 0 ∷ 0 ∷ 0 ∷ 0 ∷ [])
unfolding shallow steep byte_at number_at signed16 signed_at operation_in line_in dx_in dy_in length_in origin_in phase_in field_end box_at boxes_from boxes_in unless ◌then◌ judge_head judge_size judge_field operation_known line_known is_periodic divided coprime vector_allowed length_allowed origin_allowed phase_allowed judge_operation judge_line judge_vector judge_length judge_origin judge_phase judge_box judge_boxes judged operation_of kind_of box_places shown when_done covers hidden boxes_of
hides = refl
