-- Values of the definitions that hosts meet: a ticket shown as numbers.
-- Assumes nothing.
use Rattle.std.specs.Prelude.{◌≡◌, refl, ℕ, List, [], ◌∷◌, ◌++◌, replicate}
use Rattle.vectors.specs.Vector.{shallow, steep}
use Rattle.refusal.specs.Answer.{number_of, place_of, work_in, when_done}
use Rattle.refusal.specs.Chain.{unless, ◌then◌}
use Rattle.fields.specs.Fields.{byte_at, number_at, signed16, signed_at, operation_in, line_in, dx_in, dy_in, length_in}
use Rattle.fields.specs.Fields.{origin_in, phase_in, field_end}
use Rattle.ticket.specs.Boxes.{box_at, boxes_from, boxes_in}
use Rattle.ticket.specs.Judging.{judge_head, judge_size, judge_field, operation_known, line_known, is_periodic, length_allowed}
use Rattle.ticket.specs.Judging.{origin_allowed, judge_operation, judge_line, judge_vector, judge_length, judge_origin}
use Rattle.ticket.specs.Judging.{judge_phase, judge_box, judge_boxes, judged}
use Rattle.fields.specs.Vectors.{divided, coprime, vector_allowed, phase_allowed}
use Rattle.ticket.specs.Reading.{operation_of, kind_of, operation_number, line_number, box_places, shown}
use Rattle.showing.specs.Shown.{word_of, box_numbers, numbers_shown, read_outcome, numbers_after}
use Rattle.showing.specs.declared.Outcome.{Outcome}

-- an opening along (3, -2), L 2, one box hidden
abbrev pub opening : List ℕ
opening =
    1 ∷ 0 ∷ 1 ∷ 3 ∷ 2 ∷ 0 ∷ 1 ∷ 1 ∷ 3 ∷ 0 ∷ 4 ∷ 0 ∷ 3 ∷ 255 ∷ 254 ∷ 4 ∷ 0 ∷ 2 ∷ 0 ∷ 2 ∷ 5 ∷ 0 ∷ 2 ∷ 0 ∷ 1 ∷ 6 ∷ 0 ∷ 2 ∷ 0 ∷ 0
    ∷ 7 ∷ 0 ∷ 8 ∷ 0 ∷ 6 ∷ 0 ∷ 3 ∷ 1 ∷ 0 ∷ 0 ∷ 1 ∷ []

-- in a buffer one number longer than needed, which keeps that number
shows : numbers_after opening (replicate 265 7)
    ≡ 3 ∷ 1 ∷ 3 ∷ 18446744073709551614 ∷ 2 ∷ 1 ∷ 0 ∷ 1 ∷ 6 ∷ 3 ∷ 256 ∷ 1 ∷ (replicate 252 0 ++ (7 ∷ []))
unfolding shallow steep byte_at number_at signed16 signed_at operation_in line_in dx_in dy_in length_in origin_in phase_in field_end box_at boxes_from boxes_in unless ◌then◌ judge_head judge_size judge_field operation_known line_known is_periodic divided coprime vector_allowed length_allowed origin_allowed phase_allowed judge_operation judge_line judge_vector judge_length judge_origin judge_phase judge_box judge_boxes judged operation_of kind_of operation_number line_number box_places shown when_done numbers_shown word_of box_numbers numbers_after
shows = refl

-- an empty ticket: refusal 1, and zeros; a buffer one number short: refusal 100, and nothing written
empty : (◌≡◌ {A = Outcome} (read_outcome [] 264) (record { refusal = 1; place = 0; work = 0 }))
    × (numbers_after [] (replicate 264 7) ≡ replicate 264 0)
    × (◌≡◌ {A = Outcome} (read_outcome [] 263) (record { refusal = 100; place = 264; work = 0 }))
    × (numbers_after [] (replicate 263 7) ≡ replicate 263 7)
unfolding byte_at number_at unless ◌then◌ judge_head judge_size judge_field judge_operation judge_line judge_vector judge_length judge_origin judge_phase judge_box judge_boxes judged when_done numbers_shown number_of place_of work_in read_outcome numbers_after
empty = (refl, refl, refl, refl)
