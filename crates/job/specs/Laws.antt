-- What a job that nothing refuses may rely on, in plain facts: nobody above unfolds the judging.
-- Assumes nothing.
use Rattle.std.specs.Prelude.{◌≡◌, refl, true, List, ℕ, ◌≤◌, ◌<◌, length, get_or}
use Rattle.std.proofs.Common.{ap, ◌∙◌, arith}
use Rattle.vectors.specs.Vector.{major_of}
use Rattle.geometry.specs.Drift as lines
use Rattle.geometry.specs.Drift.{Sound}
use Rattle.geometry.proofs.Laws.{sound, allowed, phase_allowed_lem}
use Rattle.refusal.specs.Answer.{is_done, Answer, done_with}
use Rattle.refusal.specs.Chain.{◌then◌, then_work, done_work, when_done_lem}
use Rattle.ticket.specs.Judging.{judged}
use Rattle.ticket.specs.Laws.{Allowed, Bytes, good_allowed, kinds}
use Rattle.ticket.specs.Reading.{shown}
use Rattle.ticket.specs.declared.LineKind.{LineKind}
use Rattle.ticket.specs.declared.Ticket.{Ticket}
use Rattle.boxes.specs.Boxes.{boxes_of}
use Rattle.placement.specs.Placement.{byte_of, pixel_in, source_page, output_page}
use Rattle.placement.proofs.Laws as placement
use Rattle.placement.specs.declared.Placement.{Placement}
use Rattle.placement.specs.declared.Placements.{Placements}
use Rattle.tray.specs.Laws as tray
use Rattle.tray.specs.Written.{written}
use Rattle.filter.specs.Seen.{seen}
use Rattle.filter.specs.Filters.{filtered, or_white, recipe_boxes, filtered_page}
use Rattle.job.specs.Order.{line_of, segment_of, recipe_of}
use Rattle.judging.specs.Judging.{judge_places}
use Rattle.judging.specs.Laws.{Stands, stands}
use Rattle.job.specs.Job.{finished_with, finished, job_work, answer, lengths, output_after}
use Rattle.judging.specs.declared.Lengths.{Lengths}

-- ---- a finished job

pub record FinishedJob (ticket : List ℕ) (p : Placements) (n : Lengths) (work : ℕ) : Type 0 where
  pub read : is_done (judged ticket) ≡ true
  pub placed : is_done (judge_places (shown ticket) p n) ≡ true
  pub worked : job_work (shown ticket) p.width p.height ≡ work

pub finished_job : (ticket : List ℕ) (p : Placements) (n : Lengths) (work : ℕ) → answer ticket p n ≡ done_with work → FinishedJob ticket p n work
unfolding answer
finished_job ticket p n work e =
    let places : Answer = judge_places (shown ticket) p n in
    let works : Answer = done_with (job_work (shown ticket) p.width p.height) in
    let read = then_work (judged ticket) (places then works) work e in
    let placed = then_work places works work read.1 in
    record { read = read.0; placed = placed.0; worked = done_work placed.1 }

pub finished_stands :
    (ticket : List ℕ) (p : Placements) (n : Lengths) (work : ℕ) → answer ticket p n ≡ done_with work → Stands (shown ticket) p n
finished_stands ticket p n work e = stands (shown ticket) p n (finished_job ticket p n work e).placed

pub finished_allowed :
    (ticket : List ℕ) (p : Placements) (n : Lengths) (work : ℕ) → Bytes ticket → answer ticket p n ≡ done_with work → Allowed (shown ticket)
finished_allowed ticket p n work bytes e = good_allowed ticket bytes (finished_job ticket p n work e).read

-- ---- the finished page

-- the line of a ticket that was read is one whose laws hold
pub line_sound : (t : Ticket) → Allowed t → Sound (line_of t)
unfolding line_of
line_sound t ok = sound (line_of t) ok.runs

phase_below : (t : Ticket) → Allowed t → t.phase < major_of t.dx t.dy
unfolding line_of
phase_below t ok =
    kinds t.line (λ (line : LineKind). t.phase < major_of t.dx t.dy)
    (λ one. phase_allowed_lem t.dx t.dy t.phase ok.runs (ok.connected_phase one))
    (λ two.
    let forward : 1 ≤ major_of t.dx t.dy = (sound (line_of t) ok.runs).forward in
    omega (arith, ok.periodic_phase two))

-- and one that the functions of `geometry` take
pub line_allowed : (t : Ticket) → Allowed t → lines.Allowed (line_of t)
unfolding line_of
line_allowed t ok = allowed (line_of t) ok.runs ok.dx_to ok.dy_to (phase_below t ok)

-- the finished page is the filter of the ticket's segment, with white where a pixel is absent
pub finished_is :
    (white : ℕ) (t : Ticket) (p : Placement) (tray : List ℕ) (c r : ℕ)
    → finished_with white t p tray c r
    ≡ or_white white
    (filtered t.operation (segment_of t) (seen (boxes_of t) p.width p.height (pixel_in tray p)) c r)
unfolding finished_with filtered_page recipe_boxes recipe_of boxes_of
finished_is white t p tray c r = refl

-- a finished job's output tray has the finished page's pixels
pub output_pixel :
    (ticket : List ℕ) (p : Placements) (source out scratch : List ℕ) (work : ℕ)
    → answer ticket p (lengths source out scratch) ≡ done_with work → (c r : ℕ) → c < p.width → r < p.height
    → pixel_in (output_after ticket p source out scratch) (output_page p) c r
    ≡ finished (shown ticket) (source_page p) source c r
unfolding output_after output_page pixel_in is_done
output_pixel ticket p source out scratch work done c r c_in r_in =
    let to = (finished_stands ticket p (lengths source out scratch) work done).to in
    let page = finished (shown ticket) (source_page p) source in
    ap (λ (tray : List ℕ). get_or tray (byte_of (output_page p) c r) 0)
    (when_done_lem (answer ticket p (lengths source out scratch)) (written (output_page p) page out) out (ap is_done done))
    ∙ tray.written_pixel (output_page p) page out c r (omega (arith, to.stride_least)) c_in r_in
    (placement.byte_below (output_page p) (length out) c r to c_in r_in)
