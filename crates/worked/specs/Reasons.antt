-- Why a pixel came out so, worked on rows of a tray. Document 02, wish 4. A row of two pixels, 3 and 5, opened along
-- two steps from origin 0: the second stays 5. Its second window holds both pixels. The first of them has a 5 in its
-- own window, but after the erosion it is 3: it does not give the 5, and the second pixel does. Of the pixels 4, 1 and
-- 1, eroded along three steps, the first 1 is named. A pixel in two boxes is hidden by the first of them that holds it,
-- here box 1. And a pixel off the page is refused, after a source tray that is too short.
-- Assumes nothing.
use Rattle.std.specs.Prelude.{◌≡◌, refl, ℕ, List, [], ◌∷◌, ◌++◌, Result, Ok, Err}
use Rattle.vectors.specs.Vector.{shallow, steep, major_of, minor_of}
use Rattle.geometry.specs.Drift.{first}
use Rattle.geometry.specs.Line.{nearest, D, shift, period, profile, place, landing, step_of, major_at}
use Rattle.runs.specs.Span.{chosen}
use Rattle.refusal.specs.Answer.{when_done, giving}
use Rattle.refusal.specs.Chain.{unless, ◌then◌}
use Rattle.refusal.specs.declared.Later.TheVariants.{PixelOffPage}
use Rattle.refusal.specs.declared.Refusal.{Refusal}
use Rattle.refusal.specs.declared.Refusal.TheVariants.{SourceTooShort, Later}
use Rattle.refusal.specs.declared.Refused.{Refused}
use Rattle.fields.specs.Fields.{byte_at, number_at, signed16, signed_at, operation_in, line_in, dx_in, dy_in}
use Rattle.fields.specs.Fields.{length_in, origin_in, phase_in, field_end}
use Rattle.fields.specs.Vectors.{divided, coprime, vector_allowed, phase_allowed}
use Rattle.ticket.specs.Boxes.{box_at, boxes_from, boxes_in}
use Rattle.ticket.specs.Judging.{judge_head, judge_size, judge_field, operation_known, line_known, is_periodic}
use Rattle.ticket.specs.Judging.{length_allowed, origin_allowed}
use Rattle.ticket.specs.Judging.{judge_operation, judge_line, judge_vector, judge_length, judge_origin, judge_phase, judge_box}
use Rattle.ticket.specs.Judging as tickets
use Rattle.ticket.specs.Reading.{operation_of, kind_of, periodic_kind, box_places, shown}
use Rattle.boxes.specs.Boxes.{covers, hidden, boxes_of, box_allowed}
use Rattle.boxes.specs.First.{first_of}
use Rattle.placement.specs.Placement.{row_start, byte_of, pixel_in, side_allowed, allowed, fits}
use Rattle.placement.specs.Placement.{source_page, output_page, scratch_needed}
use Rattle.placement.specs.declared.Placements.{Placements}
use Rattle.judging.specs.Pages.{pages_of}
use Rattle.judging.specs.Judging.{judge_sides, judge_source, judge_output, judge_scratch, judge_page_boxes_from}
use Rattle.judging.specs.Judging.{judge_page_boxes, judge_places}
use Rattle.tray.specs.Turned.{down_of, across_of}
use Rattle.filter.specs.Seen.{seen, turned, runs_steep}
use Rattle.filter.specs.Engine.{back_of}
use Rattle.filter.specs.Filters.{joined, extreme, value_at, on_line, in_window, pass_at, pass, eroded, dilation_back}
use Rattle.filter.specs.Filters.{dilated, opened, closed, operated, filtered, or_white, recipe_boxes, filtered_page}
use Rattle.job.specs.Order.{line_of, segment_of, recipe_of}
use Rattle.job.specs.Job.{finished_with}
use Rattle.why.specs.Reason.{has, first_with, place_of, pixel_at, named, starts_low, passes_twice, first_pass_of}
use Rattle.why.specs.Reason.{without_steps, by_one_pass, by_two_passes, seen_by, by_steps, by_box, reason_of}
use Rattle.why.specs.Told.{judge_pixel, why_answer, told}
use Rattle.why.specs.declared.Reason.{Reason}

-- a connected line (1, 0) of phase 0: operation, length and origin
abbrev ticket : ℕ → ℕ → ℕ → List ℕ
ticket operation length origin =
    1 ∷ 0 ∷ 1 ∷ operation ∷ 2 ∷ 0 ∷ 1 ∷ 1 ∷ 3 ∷ 0 ∷ 4 ∷ 0 ∷ 1 ∷ 0 ∷ 0 ∷ 4 ∷ 0 ∷ 2 ∷ 0 ∷ length ∷ 5 ∷ 0 ∷ 2 ∷ 0 ∷ origin
    ∷ 6 ∷ 0 ∷ 2 ∷ 0 ∷ 0 ∷ []

-- a box of one row, from its left column on
abbrev box : ℕ → ℕ → List ℕ
box left width = 7 ∷ 0 ∷ 8 ∷ 0 ∷ left ∷ 0 ∷ 0 ∷ 0 ∷ width ∷ 0 ∷ 1 ∷ []

-- a page of one row at the start of both trays
abbrev places : ℕ → Placements
places width =
    record {
      width = width;
      height = 1;
      source = record { offset = 0; stride = width };
      output = record { offset = 0; stride = width };
    }

-- what is told of the pixel at a column of the row
abbrev asked : List ℕ → List ℕ → ℕ → ℕ → Result Reason Refused
asked ticket source width column = told ticket (places width) source 64 64 (record { column = column; row = 0 })

abbrev by_passes : ℕ → ℕ → ℕ → Result Reason Refused
by_passes kind through from =
    Ok
    (record {
      kind = kind;
      number = 0;
      phase = 0;
      through = record { column = through; row = 0 };
      from = record { column = from; row = 0 };
    })

abbrev refused : Refusal → Result Reason Refused
refused refusal = Err (record { refusal = refusal; at = 0 })

worked_reasons :
    (asked (ticket 3 2 0) (3 ∷ 5 ∷ []) 2 1
    ∷ asked (ticket 3 2 0) (3 ∷ 5 ∷ []) 2 0
    ∷ asked (ticket 1 3 1) (4 ∷ 1 ∷ 1 ∷ []) 3 1
    ∷ asked (ticket 1 3 1) (4 ∷ 1 ∷ 1 ∷ []) 3 0
    ∷ asked (ticket 1 3 1 ++ box 0 1 ++ box 1 1 ++ box 1 2) (4 ∷ 1 ∷ 1 ∷ []) 3 1
    ∷ asked (ticket 3 2 0) (3 ∷ 5 ∷ []) 2 2
    ∷ asked (ticket 3 2 0) (3 ∷ []) 2 2
    ∷ [])
    ≡ (by_passes 4 1 1
    ∷ by_passes 4 0 0
    ∷ by_passes 3 1 1
    ∷ by_passes 3 0 1
    ∷ Ok (without_steps 1 1)
    ∷ refused (Later PixelOffPage)
    ∷ refused SourceTooShort
    ∷ [])
unfolding shallow steep major_of minor_of
    first nearest D shift period profile place landing step_of major_at
    chosen when_done giving unless ◌then◌
    byte_at number_at signed16 signed_at operation_in line_in dx_in dy_in
    length_in origin_in phase_in field_end box_at boxes_from boxes_in
    judge_head judge_size judge_field operation_known line_known is_periodic divided
    coprime vector_allowed length_allowed origin_allowed phase_allowed
    judge_operation judge_line judge_vector judge_length judge_origin judge_phase judge_box
    tickets.judge_boxes tickets.judged box_places operation_of kind_of periodic_kind shown
    covers hidden boxes_of box_allowed first_of
    row_start byte_of pixel_in side_allowed allowed fits source_page output_page scratch_needed pages_of
    judge_sides judge_source judge_output judge_scratch judge_page_boxes_from judge_page_boxes judge_places
    down_of across_of seen turned runs_steep back_of
    joined extreme value_at on_line in_window pass_at pass eroded dilation_back
    dilated opened closed operated filtered or_white recipe_boxes filtered_page
    line_of segment_of recipe_of finished_with
    has first_with place_of pixel_at named starts_low passes_twice first_pass_of
    without_steps by_one_pass by_two_passes seen_by by_steps by_box reason_of
    judge_pixel why_answer told
worked_reasons = refl
