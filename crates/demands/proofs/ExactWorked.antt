-- The exact reach of case 3 of document 01, an opening of a row of three pixels with L 2: the middle pixel has all its
-- steps on the page, and each of the three matters to it: a job of the documents meets what the exact reach asks.
-- Assumes nothing.
use mathlib.Core.Path.{◌≡◌, refl}
use Rattle.refusal.specs.Answer.{done_with}
use mathlib.Core.Bool.{Bool, true, ◌&&◌, and-eq-true_iff}
use mathlib.Core.Logic.{inl}
use mathlib.Core.List.{List, [], ◌∷◌}
use Prim.Native.Nat.{ℕ, zero, suc, ◌<◌}
use native.Mathlib.Omega.{arith}
use borrow.Author.Tests.{ltb-true}
use lib.Dec.{ltb}
use Rattle.vectors.specs.Vector.{shallow, steep, major_of, minor_of}
use Rattle.geometry.specs.Line.{nearest, D, shift, period, profile, place, landing, step_of, major_at}
use Rattle.geometry.specs.Number.{within, in_page, count, behind, ahead}
use Rattle.runs.specs.Block.{rightward, leftward, resulting}
use Rattle.runs.specs.Scratch.{total}
use Rattle.refusal.specs.Chain.{unless, ◌then◌}
use Rattle.fields.specs.Fields.{byte_at, number_at, signed16, signed_at, operation_in, line_in, dx_in, dy_in, length_in}
use Rattle.fields.specs.Fields.{origin_in, phase_in, field_end}
use Rattle.fields.specs.Vectors.{divided, coprime, vector_allowed, phase_allowed}
use Rattle.ticket.specs.Boxes.{box_at, boxes_from, boxes_in}
use Rattle.ticket.specs.Judging.{judge_head, judge_size, judge_field, operation_known, line_known, is_periodic}
use Rattle.ticket.specs.Judging.{length_allowed, origin_allowed}
use Rattle.ticket.specs.Judging.{judge_operation, judge_line, judge_vector, judge_length, judge_origin, judge_phase, judge_box}
use Rattle.ticket.specs.Judging.{judged}
use Rattle.ticket.specs.Judging as ticket
use Rattle.ticket.specs.Laws.{Bytes}
use Rattle.ticket.specs.Reading.{kind_of, operation_of, periodic_kind, box_places, shown}
use Rattle.boxes.specs.Boxes.{hidden, boxes_of, box_allowed}
use Rattle.placement.specs.Placement.{side_allowed, allowed, fits, source_page, output_page, scratch_needed}
use Rattle.placement.specs.declared.Placements.{Placements}
use Rattle.tray.specs.Turned.{down_of, across_of}
use Rattle.filter.specs.Seen.{runs_steep}
use Rattle.filter.specs.Filters.{dilation_back}
use Rattle.filter.specs.Work.{charged, charged_at, pass_work, erosion_work, dilation_work, work_of}
use Rattle.job.specs.Order.{line_of, segment_of}
use Rattle.judging.specs.Pages.{pages_of}
use Rattle.judging.specs.Judging.{judge_sides, judge_source, judge_output, judge_scratch, judge_page_boxes_from}
use Rattle.judging.specs.Judging.{judge_page_boxes}
use Rattle.judging.specs.Judging.{judge_places}
use Rattle.job.specs.Job.{job_work, answer}
use Rattle.judging.specs.declared.Lengths.{Lengths}
use Rattle.demands.specs.Near.{Near}
use Rattle.demands.specs.Exact.{Clear, JobMatters}
use Rattle.demands.proofs.ExactJob.{exact_job_reach}

-- "ticket 01 00 01 03, 02 00 01 01, 03 00 04 00 01 00 00, 04 00 02 00 02, 05 00 02 00 00, 06 00 02 00 00"
abbrev pub opening : List ℕ
opening =
    1 ∷ 0 ∷ 1 ∷ 3 ∷ 2 ∷ 0 ∷ 1 ∷ 1 ∷ 3 ∷ 0 ∷ 4 ∷ 0 ∷ 1 ∷ 0 ∷ 0
    ∷ 4 ∷ 0 ∷ 2 ∷ 0 ∷ 2 ∷ 5 ∷ 0 ∷ 2 ∷ 0 ∷ 0 ∷ 6 ∷ 0 ∷ 2 ∷ 0 ∷ 0 ∷ []

-- a row of three pixels in trays that are just long enough
abbrev pub row : Placements
row =
    record {
      width = 3;
      height = 1;
      source = record { offset = 0; stride = 3 };
      output = record { offset = 0; stride = 3 };
    }

abbrev pub sizes : Lengths
sizes = record { source = 3; output = 3; scratch = 15 }

small : List ℕ → Bool
small [] = true
small (b ∷ s) = ltb b 256 && small s

small_bytes : (s : List ℕ) → small s ≡ true → Bytes s
unfolding small
small_bytes [] e k = omega arith
small_bytes (b ∷ s) e zero = ltb-true b 256 ((and-eq-true_iff (ltb b 256) (small s)).0 e).0
small_bytes (b ∷ s) e (suc k) = small_bytes s ((and-eq-true_iff (ltb b 256) (small s)).0 e).1 k

opening_bytes : Bytes opening
unfolding small
opening_bytes = small_bytes opening refl

opening_done : answer opening row sizes ≡ done_with 6
unfolding answer job_work judge_places judge_sides judge_source judge_output judge_scratch judge_page_boxes judge_page_boxes_from unless
    ◌then◌ box_allowed source_page output_page side_allowed allowed fits scratch_needed pages_of work_of erosion_work
    dilation_work pass_work charged_at charged dilation_back runs_steep line_of segment_of boxes_of shallow steep major_of
    minor_of nearest D shift period profile place landing step_of major_at within in_page count behind ahead rightward
    leftward resulting total byte_at number_at signed16 signed_at operation_in line_in dx_in dy_in length_in origin_in phase_in
    field_end box_at boxes_from boxes_in judge_head judge_size judge_field operation_known line_known is_periodic divided coprime
    vector_allowed length_allowed origin_allowed phase_allowed judge_operation judge_line judge_vector judge_length judge_origin
    judge_phase judge_box ticket.judge_boxes judged operation_of kind_of periodic_kind shown box_places
opening_done = refl

-- the middle pixel stands at step 1
middle_clear : Clear (shown opening) (source_page row) 1 0
unfolding source_page runs_steep line_of boxes_of hidden steep major_of minor_of nearest D shift period profile place landing
    step_of major_at within in_page down_of across_of byte_at number_at signed16 signed_at operation_in line_in dx_in dy_in length_in
    origin_in phase_in field_end box_at boxes_from boxes_in periodic_kind operation_of kind_of shown box_places
middle_clear =
    record {
      column = omega arith;
      row = omega arith;
      steps_before = omega arith;
      on_page_lem = λ s few. there s few.on;
      in_no_box = λ c r near. refl;
    }
  where
    there : (s : ℕ) → s < 3 → in_page (line_of (shown opening)) 3 1 1 0 s ≡ true
    there zero h = refl
    there (suc zero) h = refl
    there (suc (suc zero)) h = refl
    there (suc (suc (suc s))) h = absurd (omega arith)

-- each of the three pixels is near it, and matters to it
middle_near : (c : ℕ) → c < 3 → Near (shown opening) (source_page row) 1 0 c 0
unfolding source_page runs_steep line_of boxes_of hidden steep major_of minor_of nearest D shift period profile place landing
    step_of major_at within in_page down_of across_of byte_at number_at signed16 signed_at operation_in line_in dx_in dy_in length_in
    origin_in phase_in field_end box_at boxes_from boxes_in periodic_kind operation_of kind_of shown box_places
middle_near zero h =
    record {
      step = 0;
      fewer = record { back = omega arith; on = omega arith };
      on_page_lem = refl;
      is_step = record { along = refl; across = refl };
    }
middle_near (suc zero) h =
    record {
      step = 1;
      fewer = record { back = omega arith; on = omega arith };
      on_page_lem = refl;
      is_step = record { along = refl; across = refl };
    }
middle_near (suc (suc zero)) h =
    record {
      step = 2;
      fewer = record { back = omega arith; on = omega arith };
      on_page_lem = refl;
      is_step = record { along = refl; across = refl };
    }
middle_near (suc (suc (suc c))) h = absurd (omega arith)

pub middle_matters : (c : ℕ) → c < 3 → JobMatters opening row sizes 1 0 c 0
unfolding byte_at number_at operation_in operation_of kind_of shown
middle_matters c h =
    exact_job_reach opening row sizes 6 1 0 opening_bytes opening_done (inl refl) middle_clear c 0 (middle_near c h)
