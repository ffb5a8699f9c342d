-- The job on a file, worked: a file of four pixels and a maximum of 9, eroded along two steps with its second pixel
-- hidden. The hidden pixel does not count and comes out as 9; the file is written with a header of its own, and the old
-- bytes behind it stay. Then three refusals: 17 under the box, 12 for an output one byte short, and the ticket's own
-- before the file's. The work is 5: in each block of two steps one comparison each way, and one for the window that
-- spans both.
-- Assumes nothing.
use Rattle.std.specs.Prelude.{◌≡◌, refl, ℕ, List, [], ◌∷◌, ◌++◌, replicate, Result, Ok, Err}
use Rattle.vectors.specs.Vector.{shallow, steep, major_of, minor_of}
use Rattle.geometry.specs.Line.{nearest, D, shift, period, profile, place, landing, step_of, major_at}
use Rattle.geometry.specs.Number.{within, in_page, count, ahead}
use Rattle.geometry.specs.Number as Number
use Rattle.runs.specs.Span.{chosen}
use Rattle.runs.specs.Block.{rightward, leftward, resulting}
use Rattle.runs.specs.Scratch.{total}
use Rattle.refusal.specs.Answer.{number_of, place_of, work_in, is_done, when_done, giving}
use Rattle.refusal.specs.Chain.{unless, ◌then◌}
use Rattle.refusal.specs.declared.Later.TheVariants.{BadPixel}
use Rattle.refusal.specs.declared.Refusal.{Refusal}
use Rattle.refusal.specs.declared.Refusal.TheVariants.{BadPhase, OutputTooShort, Later}
use Rattle.refusal.specs.declared.Refused.{Refused}
use Rattle.fields.specs.Fields.{byte_at, number_at, signed16, signed_at, operation_in, line_in, dx_in, dy_in}
use Rattle.fields.specs.Fields.{length_in, origin_in, phase_in, field_end}
use Rattle.fields.specs.Vectors.{divided, coprime, vector_allowed, phase_allowed}
use Rattle.ticket.specs.Boxes.{box_at, boxes_from, boxes_in}
use Rattle.ticket.specs.Judging.{judge_head, judge_size, judge_field, operation_known, line_known, is_periodic}
use Rattle.ticket.specs.Judging.{length_allowed, origin_allowed}
use Rattle.ticket.specs.Judging.{judge_operation, judge_line, judge_vector, judge_length, judge_origin, judge_phase, judge_box}
use Rattle.ticket.specs.Judging as tickets
use Rattle.ticket.specs.Reading.{operation_of, kind_of, periodic_kind, box_places, shown}
use Rattle.boxes.specs.Boxes.{covers, hidden, boxes_of, box_allowed}
use Rattle.placement.specs.Placement.{row_start, byte_of, pixel_in, column_of, row_of, inside, side_allowed, allowed, fits}
use Rattle.placement.specs.Placement.{source_page, output_page, scratch_needed}
use Rattle.tray.specs.Written.{written_from, written, cleared}
use Rattle.filter.specs.Seen.{seen, turned, runs_steep}
use Rattle.filter.specs.Filters.{joined, extreme, value_at, on_line, in_window, pass_at, pass, eroded, dilation_back}
use Rattle.filter.specs.Filters.{dilated, opened, closed, operated, filtered, or_white, recipe_boxes, filtered_page}
use Rattle.filter.specs.Work.{charged, charged_at, pass_work, erosion_work, dilation_work, work_of}
use Rattle.job.specs.Order.{line_of, segment_of, recipe_of}
use Rattle.judging.specs.Pages.{pages_of}
use Rattle.judging.specs.Judging.{judge_sides, judge_source, judge_output, judge_scratch, judge_page_boxes_from}
use Rattle.judging.specs.Judging.{judge_page_boxes}
use Rattle.judging.specs.Judging.{judge_places}
use Rattle.job.specs.Job.{finished_with, job_work, lengths}
use Rattle.judging.specs.Pages.{job_scratch}
use Rattle.heading.specs.Writing.{decimal_in, decimal, line, header_of}
use Rattle.pgm.specs.Bytes.{is_space, is_digit, is_hash, is_line_end, uncommented, bytes_from, first_place, starts_with}
use Rattle.pgm.specs.Bytes.{behind, numeral}
use Rattle.pgm.specs.Header.{digits, number_in, behind_number, judge_number, from_width, from_height, from_maximum}
use Rattle.pgm.specs.Header.{from_delimiter, width_in, height_in, maximum_in, maximum_place, pixels_start}
use Rattle.pgm.specs.Header.{judge_magic, judge_from_maximum, judge_header, judge_maximum}
use Rattle.pgm.specs.Reading.{sound_pixels, image_pixels, judge_pixels, told, header_in}
use Rattle.pgm.specs.Reading as pgm
use Rattle.file.specs.FileJob.{file_page, file_answer, with_length, delivery, file_output_after, file_scratch_after}
use Rattle.file.specs.Places.{header_for, places_of, file_length, headed}
use Rattle.file.specs.declared.Finished.{Finished}

-- erode, connected, (1, 0), two steps, origin 0, this phase; and a box on column 1, row 0
abbrev ticket : ℕ → List ℕ
ticket phase =
    1 ∷ 0 ∷ 1 ∷ 1 ∷ 2 ∷ 0 ∷ 1 ∷ 1 ∷ 3 ∷ 0 ∷ 4 ∷ 0 ∷ 1 ∷ 0 ∷ 0 ∷ 4 ∷ 0 ∷ 2 ∷ 0 ∷ 2 ∷ 5 ∷ 0 ∷ 2 ∷ 0 ∷ 0 ∷ 6 ∷ 0 ∷ 2
    ∷ 0 ∷ phase ∷ 7 ∷ 0 ∷ 8 ∷ 0 ∷ 1 ∷ 0 ∷ 0 ∷ 0 ∷ 1 ∷ 0 ∷ 1 ∷ []

-- "P5 4 1 9", a newline, and the pixels 7, this one, 5, 9
abbrev file : ℕ → List ℕ
file second = 80 ∷ 53 ∷ 32 ∷ 52 ∷ 32 ∷ 49 ∷ 32 ∷ 57 ∷ 10 ∷ 7 ∷ second ∷ 5 ∷ 9 ∷ []

-- "P5", "4", "1", "9", a newline behind each, and the pixels 7, 9, 5, 9
abbrev finished : List ℕ
finished = 80 ∷ 53 ∷ 10 ∷ 52 ∷ 10 ∷ 49 ∷ 10 ∷ 57 ∷ 10 ∷ 7 ∷ 9 ∷ 5 ∷ 9 ∷ []

record Ran : Type 0 where
  told : Result Finished Refused
  output : List ℕ
  scratch : List ℕ

-- the job on old bytes: 200 in the output, 100 in a scratch of a byte more than is needed
abbrev ran : List ℕ → List ℕ → ℕ → Ran
ran ticket file room =
    record {
      told = delivery ticket file (lengths file (replicate room 200) (replicate 21 100));
      output = file_output_after ticket file (replicate room 200) (replicate 21 100);
      scratch = file_scratch_after ticket file (replicate room 200) (replicate 21 100);
    }

-- a refused job: nothing is written
abbrev refused : Refusal → ℕ → ℕ → Ran
refused refusal at room =
    record {
      told = Err (record { refusal = refusal; at = at });
      output = replicate room 200;
      scratch = replicate 21 100;
    }

worked_files :
    (ran (ticket 0) (file 3) 15 ∷ ran (ticket 0) (file 10) 15 ∷ ran (ticket 0) (file 3) 12 ∷ ran (ticket 1) [] 15 ∷ [])
    ≡ (record {
      told = Ok (record { work = 5; length = 13 });
      output = finished ++ (200 ∷ 200 ∷ []);
      scratch = replicate 20 0 ++ (100 ∷ []);
    }
    ∷ refused (Later BadPixel) 10 15
    ∷ refused OutputTooShort 0 12
    ∷ refused BadPhase 25 15
    ∷ [])
unfolding shallow steep major_of minor_of
    nearest D shift period profile place landing step_of major_at
    within in_page count Number.behind ahead
    chosen rightward leftward resulting total
    number_of place_of work_in is_done when_done giving unless ◌then◌
    byte_at number_at signed16 signed_at operation_in line_in dx_in dy_in
    length_in origin_in phase_in field_end box_at boxes_from boxes_in
    judge_head judge_size judge_field operation_known line_known is_periodic divided
    coprime vector_allowed length_allowed origin_allowed phase_allowed
    judge_operation judge_line judge_vector judge_length judge_origin judge_phase judge_box
    tickets.judge_boxes tickets.judged box_places operation_of kind_of periodic_kind shown
    covers hidden boxes_of box_allowed
    row_start byte_of pixel_in side_allowed allowed fits source_page output_page scratch_needed
    column_of row_of inside written_from written cleared
    seen turned runs_steep
    joined extreme value_at on_line in_window pass_at pass eroded dilation_back
    dilated opened closed operated filtered or_white recipe_boxes filtered_page
    charged charged_at pass_work erosion_work dilation_work work_of
    line_of segment_of recipe_of pages_of
    judge_sides judge_source judge_output judge_scratch judge_page_boxes_from judge_page_boxes judge_places
    finished_with job_work job_scratch
    is_space is_digit is_hash is_line_end uncommented bytes_from first_place starts_with behind numeral
    digits number_in behind_number judge_number from_width from_height from_maximum from_delimiter
    width_in height_in maximum_in maximum_place pixels_start judge_magic judge_from_maximum judge_header judge_maximum
    sound_pixels image_pixels judge_pixels pgm.judged told header_in
    decimal_in decimal line header_of
    file_page file_answer with_length delivery file_output_after file_scratch_after
    header_for places_of file_length headed
worked_files = refl
