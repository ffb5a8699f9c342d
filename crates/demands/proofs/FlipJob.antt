-- The flip of a job and of a job on a file: the answer, the work and what they leave; and what a flipped ticket is.
-- Assumes nothing.
use mathlib.Core.Path.{◌≡◌, sym, ap, ap₂, subst, ◌∙◌}
use Rattle.refusal.specs.Answer.{Answer, done_with}
use mathlib.Core.Bool.{Bool, true, not, ◌||◌}
use mathlib.Core.List.{List, map}
use Prim.Native.Nat.{ℕ, ◌<◌}
use native.Mathlib.Omega.{arith}
use lib.IntN.{nat_abs}
use Rattle.vectors.specs.Vector.{shallow, steep}
use Rattle.geometry.specs.Drift.{mirrored}
use Rattle.geometry.specs.Flip.{flipped}
use Rattle.geometry.proofs.Laws.{mirrored_below, flipped_runs, flipped_steep, flipped_twice, flipped_level}
use Rattle.geometry.proofs.Laws.{flipped_dx, flipped_dy, flipped_kind, flipped_phase}
use Rattle.geometry.specs.declared.Line.{Line}
use Rattle.refusal.specs.Chain.{◌then◌, then_on}
use Rattle.fields.specs.Vectors.{vector_allowed, phase_allowed}
use Rattle.ticket.specs.Judging.{judged}
use Rattle.ticket.specs.Reading.{periodic_kind}
use Rattle.ticket.specs.Laws.{Allowed, vector_passes, phase_passes, vector_by_sizes, phase_by_sizes}
use Rattle.ticket.specs.Reading.{shown}
use Rattle.ticket.specs.declared.HiddenBox.{HiddenBox}
use Rattle.ticket.specs.declared.Ticket.{Ticket}
use Rattle.boxes.specs.Boxes.{boxes_of}
use Rattle.placement.specs.Placement.{source_page}
use Rattle.filter.specs.Seen.{runs_steep}
use Rattle.job.specs.Order.{line_of, white}
use Rattle.judging.specs.Judging.{judge_places}
use Rattle.job.specs.Job.{finished_with, job_work, answer, lengths}
use Rattle.judging.specs.Laws.{pages_by_operation, places_alike}
use Rattle.job.specs.Laws.{finished_job, finished_stands, finished_allowed}
use Rattle.job.specs.Laws.{output_pixel}
use Rattle.judging.specs.declared.Lengths.{Lengths}
use Rattle.file.specs.FileJob.{header, file_page}
use Rattle.file.proofs.Laws as files
use Rattle.file.specs.Places.{places_of}
use Rattle.demands.specs.Files.{source_of}
use Rattle.demands.specs.Flip.{flipped_box, OnPage, FlippedTicket, FlippedAnswer, FlippedJob, FlippedJobWork}
use Rattle.demands.specs.Flip.{FlippedFile, FlippedFileWork, FlippedVector, FlippedBoxes, FlippedBack, LevelLine}
use Rattle.demands.proofs.Flip.{line_runs, flipped_page, flipped_work}
use Rattle.demands.proofs.FlipBoxes.{on_page_flipped, boxes_again}

-- ---- the job

pub flipped_boxes : FlippedBoxes
flipped_boxes t t' w h on flip =
    subst (OnPage w h) (sym flip.boxes) (on_page_flipped w h (runs_steep (line_of t)) (boxes_of t) on)

pub flipped_answer : FlippedAnswer
unfolding answer
flipped_answer ticket ticket' p n work bytes done read flip =
    let t : Ticket = shown ticket in
    let t' : Ticket = shown ticket' in
    let job = finished_job ticket p n work done in
    let on = (finished_stands ticket p n work done).boxes in
    let works : job_work t' p.width p.height ≡ job_work t p.width p.height =
    flipped_work t t' p.width p.height (finished_allowed ticket p n work bytes done) flip in
    let places : judge_places t' p n ≡ judge_places t p n =
    places_alike t t' p n (pages_by_operation t t' flip.operation) on
    (flipped_boxes t t' p.width p.height on flip) in
    then_on (judged ticket') (judge_places t' p n then done_with (job_work t' p.width p.height)) read
    ∙ ap₂ (λ (judgement : Answer) (q : ℕ). judgement then done_with q) places (works ∙ job.worked)
    ∙ then_on (judge_places t p n) (done_with work) job.placed

pub flipped_job : FlippedJob
unfolding source_page
flipped_job ticket ticket' p p' source source' out out' scratch scratch' work work' bytes done done' flip pages c r
    c_in r_in =
    let t : Ticket = shown ticket in
    let steep : Bool = runs_steep (line_of t) in
    let n : Lengths = lengths source out scratch in
    let c' : ℕ = mirrored steep p.width c in
    let r' : ℕ = mirrored (not steep) p.height r in
    let column : c' < p'.width = omega (arith, mirrored_below steep p.width c c_in, pages.same_width) in
    let row : r' < p'.height = omega (arith, mirrored_below (not steep) p.height r r_in, pages.same_height) in
    output_pixel ticket' p' source' out' scratch' work' done' c' r' column row
    ∙ flipped_page white t (shown ticket') (source_page p) (source_page p') source source'
    (finished_allowed ticket p n work bytes done)
    (finished_stands ticket p n work done).boxes
    flip
    pages
    c
    r
    c_in
    r_in
    ∙ sym (output_pixel ticket p source out scratch work done c r c_in r_in)

pub flipped_job_work : FlippedJobWork
flipped_job_work ticket ticket' p p' n n' work work' bytes done done' flip width height =
    sym (finished_job ticket' p' n' work' done').worked
    ∙ ap₂ (job_work (shown ticket')) width height
    ∙ flipped_work (shown ticket) (shown ticket') p.width p.height
    (finished_allowed ticket p n work bytes done)
    flip
    ∙ (finished_job ticket p n work done).worked

pub flipped_file : FlippedFile
unfolding file_page source_page places_of
flipped_file ticket ticket' file file' out out' scratch scratch' work work' bytes done done' flip pages maximum c r
    c_in r_in =
    let t : Ticket = shown ticket in
    let steep : Bool = runs_steep (line_of t) in
    let w : ℕ = (header file).width in
    let h : ℕ = (header file).height in
    let c' : ℕ = mirrored steep w c in
    let r' : ℕ = mirrored (not steep) h r in
    let column : c' < (header file').width = omega (arith, mirrored_below steep w c c_in, pages.same_width) in
    let row : r' < (header file').height = omega (arith, mirrored_below (not steep) h r r_in, pages.same_height) in
    files.file_pixel ticket' file' out' scratch' work' done' c' r' column row
    ∙ ap (λ (most : ℕ). finished_with most (shown ticket') (source_of file') file' c' r') maximum
    ∙ flipped_page (header file).maximum t (shown ticket') (source_of file) (source_of file') file file'
    (files.file_allowed ticket file (lengths file out scratch) work bytes done)
    (files.file_stands ticket file out scratch work done).boxes
    flip
    pages
    c
    r
    c_in
    r_in
    ∙ sym (files.file_pixel ticket file out scratch work done c r c_in r_in)

pub flipped_file_work : FlippedFileWork
flipped_file_work ticket ticket' file file' n n' work work' bytes done done' flip width height =
    sym (files.finished_file ticket' file' n' work' done').worked
    ∙ ap₂ (job_work (shown ticket')) width height
    ∙ flipped_work (shown ticket) (shown ticket') (header file).width (header file).height
    (files.file_allowed ticket file n work bytes done)
    flip
    ∙ (files.finished_file ticket file n work done).worked

-- ---- the ticket

pub flipped_back : FlippedBack
unfolding runs_steep
flipped_back t t' w h ok on flip =
    let way : runs_steep (line_of t') ≡ runs_steep (line_of t) =
    ap runs_steep flip.line ∙ flipped_steep (line_of t) (line_runs t ok) in
    record {
      operation = sym flip.operation;
      line = sym (ap flipped flip.line ∙ flipped_twice (line_of t) (line_runs t ok));
      length = sym flip.length;
      origin = sym flip.origin;
      boxes = sym
          (ap₂ (λ (steep : Bool) (boxes : List HiddenBox). map (flipped_box steep w h) boxes) way flip.boxes
          ∙ boxes_again w h (runs_steep (line_of t)) (boxes_of t) on);
    }

pub level_line : LevelLine
unfolding line_of
level_line t e = flipped_level (line_of t) e

-- the line of a flipped ticket, number by number
record Negated (t t' : Ticket) : Type 0 where
  kind : periodic_kind t'.line ≡ periodic_kind t.line
  runs : shallow t'.dx t'.dy || steep t'.dx t'.dy ≡ true
  dx : nat_abs t'.dx ≡ nat_abs t.dx
  dy : nat_abs t'.dy ≡ nat_abs t.dy
  phase : t'.phase ≡ t.phase

negated : (w h : ℕ) (t t' : Ticket) → Allowed t → FlippedTicket w h t t' → Negated t t'
unfolding line_of
negated w h t t' ok flip =
    let l : Line = line_of t in
    record {
      kind = ap (λ (k : Line). k.periodic) flip.line ∙ flipped_kind l;
      runs = subst (λ (k : Line). shallow k.dx k.dy || steep k.dx k.dy ≡ true) (sym flip.line)
          (flipped_runs l (line_runs t ok));
      dx = ap (λ (k : Line). nat_abs k.dx) flip.line ∙ flipped_dx l;
      dy = ap (λ (k : Line). nat_abs k.dy) flip.line ∙ flipped_dy l;
      phase = ap (λ (k : Line). k.phase) flip.line ∙ flipped_phase l;
    }

pub flipped_vector : FlippedVector
flipped_vector t t' w h ok flip =
    let same = negated w h t t' ok flip in (
      ap (λ (kind : Bool). vector_allowed kind t'.dx t'.dy) same.kind
          ∙ vector_by_sizes (periodic_kind t.line) t.dx t.dy t'.dx t'.dy same.dx same.dy same.runs
          (vector_passes t ok),
      ap₂ (λ (kind : Bool) (i : ℕ). phase_allowed kind t'.dx t'.dy i) same.kind same.phase
          ∙ phase_by_sizes (periodic_kind t.line) t.dx t.dy t'.dx t'.dy same.dx same.dy t.phase
          ∙ phase_passes t ok,
    )
