-- A whole tray in one call, worked: three jobs erode rows of three pixels along two steps. The second is refused: its
-- ticket's end, summed in 64 bits, would come round into the buffer, yet over whole numbers it is past it, and a ticket
-- that is not there counts as empty. The third job's page begins on the last byte of the first one's, where its byte
-- stands. The numbers past the 768th keep their values. Then three lists that are refused as a whole: one of 257 jobs,
-- one with too few numbers for its jobs, and one with a number too few for its answers.
-- Assumes nothing.
use Rattle.std.specs.Prelude.{◌≡◌, refl, ℕ, List, [], ◌∷◌, ◌++◌, replicate}
use Rattle.vectors.specs.Vector.{shallow, steep, major_of, minor_of}
use Rattle.geometry.specs.Line.{nearest, D, shift, period, profile, place, landing, step_of, major_at}
use Rattle.geometry.specs.Number.{within, in_page, count, behind, ahead}
use Rattle.runs.specs.Span.{chosen}
use Rattle.runs.specs.Block.{rightward, leftward, resulting}
use Rattle.runs.specs.Scratch.{total}
use Rattle.refusal.specs.Answer.{number_of, place_of, work_in, is_done, when_done, Answer, done_with, refused_at}
use Rattle.refusal.specs.Chain.{unless, ◌then◌}
use Rattle.refusal.specs.declared.Later.TheVariants.{TooManyJobs, NumbersTooFew}
use Rattle.refusal.specs.declared.Refusal.TheVariants.{Later}
use Rattle.fields.specs.Fields.{byte_at, number_at, signed16, signed_at, operation_in, line_in, dx_in, dy_in}
use Rattle.fields.specs.Fields.{length_in, origin_in, phase_in, field_end}
use Rattle.fields.specs.Vectors.{divided, coprime, vector_allowed, phase_allowed}
use Rattle.ticket.specs.Boxes.{box_at, boxes_from, boxes_in}
use Rattle.ticket.specs.Judging.{judge_head, judge_size, judge_field, operation_known, line_known, is_periodic}
use Rattle.ticket.specs.Judging.{length_allowed, origin_allowed}
use Rattle.ticket.specs.Judging.{judge_operation, judge_line, judge_vector, judge_length, judge_origin, judge_phase, judge_box}
use Rattle.ticket.specs.Judging as tickets
use Rattle.ticket.specs.Reading.{operation_of, kind_of, periodic_kind, box_places, shown}
use Rattle.boxes.specs.Boxes.{covers, hidden, boxes_of, box_allowed}
use Rattle.placement.specs.Placement.{row_start, byte_of, pixel_in, column_of, row_of, inside, side_allowed, allowed, fits}
use Rattle.placement.specs.Placement.{source_page, output_page, scratch_needed}
use Rattle.tray.specs.Written.{written_from, written, cleared}
use Rattle.filter.specs.Seen.{seen, turned, runs_steep}
use Rattle.filter.specs.Filters.{joined, extreme, value_at, on_line, in_window, pass_at, pass, eroded, dilation_back}
use Rattle.filter.specs.Filters.{dilated, opened, closed, operated, filtered, or_white, recipe_boxes, filtered_page}
use Rattle.filter.specs.Work.{charged, charged_at, pass_work, erosion_work, dilation_work, work_of}
use Rattle.job.specs.Order.{line_of, segment_of, recipe_of}
use Rattle.judging.specs.Pages.{pages_of}
use Rattle.judging.specs.Judging.{judge_sides, judge_source, judge_output, judge_scratch, judge_page_boxes_from}
use Rattle.judging.specs.Judging.{judge_page_boxes}
use Rattle.judging.specs.Judging.{judge_places}
use Rattle.job.specs.Job.{finished_with, job_work, answer, output_after, scratch_after}
use Rattle.judging.specs.Pages.{job_scratch}
use Rattle.listing.specs.Listed.{spot_at, listed_at, ticket_of}
use Rattle.batch.specs.Batch.{Lent, lent, single_answer, after_job, trays_after, answer_at}
use Rattle.batch.specs.Call.{list_answer, answer_of, list_output_after, list_scratch_after, told_from, answers_of}
use Rattle.batch.specs.Call.{list_answers_after}

-- erode, connected, (1, 0), two steps, origin 0, phase 0
abbrev ticket : List ℕ
ticket =
    1 ∷ 0 ∷ 1 ∷ 1 ∷ 2 ∷ 0 ∷ 1 ∷ 1 ∷ 3 ∷ 0 ∷ 4 ∷ 0 ∷ 1 ∷ 0 ∷ 0 ∷ 4 ∷ 0 ∷ 2 ∷ 0 ∷ 2 ∷ 5 ∷ 0 ∷ 2 ∷ 0 ∷ 0 ∷ 6 ∷ 0 ∷ 2
    ∷ 0 ∷ 0 ∷ []

-- a job: its ticket's start and length, three columns and one row, source and output offset, both strides three
abbrev job : ℕ → ℕ → ℕ → ℕ → List ℕ → List ℕ
job start size from to rest = start ∷ size ∷ 3 ∷ 1 ∷ from ∷ 3 ∷ to ∷ 3 ∷ rest

abbrev jobs : List ℕ
jobs = job 0 30 0 0 (job 18446744073709551615 31 0 3 (job 0 30 3 2 []))

-- on old bytes: 200 in the output, 100 in a scratch of a byte more than is needed
abbrev given : Lent
given = lent jobs ticket (9 ∷ 1 ∷ 5 ∷ 4 ∷ 8 ∷ 2 ∷ []) (replicate 6 200) (replicate 16 100)

record Ran : Type 0 where
  whole : Answer
  output : List ℕ
  scratch : List ℕ
  answers : List ℕ

-- so many jobs, and so many numbers for the answers, all 7 before
abbrev ran : ℕ → ℕ → Ran
ran count room =
    record {
      whole = answer_of count given (replicate room 7);
      output = list_output_after count given (replicate room 7);
      scratch = list_scratch_after count given (replicate room 7);
      answers = list_answers_after count given (replicate room 7);
    }

-- a list that is refused as a whole: no tray is written
abbrev refused : Answer → List ℕ → Ran
refused whole answers =
    record { whole = whole; output = replicate 6 200; scratch = replicate 16 100; answers = answers }

worked_lists :
    (ran 3 769 ∷ ran 257 769 ∷ ran 4 768 ∷ ran 3 767 ∷ [])
    ≡ (record {
      whole = done_with 0;
      output = 1 ∷ 1 ∷ 4 ∷ 2 ∷ 2 ∷ 200 ∷ [];
      scratch = replicate 15 0 ++ (100 ∷ []);
      answers = (0 ∷ 0 ∷ 3 ∷ 1 ∷ 0 ∷ 0 ∷ 0 ∷ 0 ∷ 3 ∷ []) ++ replicate 759 0 ++ (7 ∷ []);
    }
    ∷ refused (refused_at (Later TooManyJobs) 0) (replicate 768 0 ++ (7 ∷ []))
    ∷ refused (refused_at (Later NumbersTooFew) 32) (replicate 768 7)
    ∷ refused (refused_at (Later NumbersTooFew) 768) (replicate 767 7)
    ∷ [])
unfolding shallow steep major_of minor_of
    nearest D shift period profile place landing step_of major_at
    within in_page count behind ahead
    chosen rightward leftward resulting total
    number_of place_of work_in is_done when_done unless ◌then◌
    byte_at number_at signed16 signed_at operation_in line_in dx_in dy_in
    length_in origin_in phase_in field_end box_at boxes_from boxes_in
    judge_head judge_size judge_field operation_known line_known is_periodic divided
    coprime vector_allowed length_allowed origin_allowed phase_allowed
    judge_operation judge_line judge_vector judge_length judge_origin judge_phase judge_box
    tickets.judge_boxes tickets.judged box_places operation_of kind_of periodic_kind shown
    covers hidden boxes_of box_allowed
    row_start byte_of pixel_in side_allowed allowed fits source_page output_page scratch_needed
    column_of row_of inside written_from written cleared
    seen turned runs_steep
    joined extreme value_at on_line in_window pass_at pass eroded dilation_back
    dilated opened closed operated filtered or_white recipe_boxes filtered_page
    charged charged_at pass_work erosion_work dilation_work work_of
    line_of segment_of recipe_of pages_of
    judge_sides judge_source judge_output judge_scratch judge_page_boxes_from judge_page_boxes judge_places
    finished_with job_work job_scratch
    answer output_after scratch_after
    spot_at listed_at ticket_of single_answer after_job trays_after answer_at
    list_answer list_output_after list_scratch_after told_from answers_of list_answers_after
worked_lists = refl
