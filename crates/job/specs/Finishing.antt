-- What the functions below the job ask and promise one another. Nothing here is needed to read what a job does (Job).
-- Assumes nothing.
use Rattle.std.specs.Prelude.{◌≡◌, true, List, ℕ}
use Rattle.refusal.specs.Answer.{is_done, when_done, Answer, done_with}
use Rattle.refusal.specs.Chain.{◌then◌}
use Rattle.ticket.specs.Laws.{Allowed}
use Rattle.ticket.specs.declared.Ticket.{Ticket}
use Rattle.placement.specs.Placement.{source_page, output_page}
use Rattle.placement.specs.declared.Placements.{Placements}
use Rattle.tray.specs.Written.{written, cleared}
use Rattle.judging.specs.Judging.{judge_places}
use Rattle.job.specs.Job.{finished_with, job_work, lengths}
use Rattle.judging.specs.Pages.{job_scratch}

-- the ticket was read, and none of refusals 10 to 14 is given
pub record Unrefused (t : Ticket) (p : Placements) (source output scratch : ℕ) : Type 0 where
  pub ticket : Allowed t
  pub places : is_done (judge_places t p (record { source = source; output = output; scratch = scratch })) ≡ true

-- what a finished job leaves
pub record Finished (t : Ticket) (white : ℕ) (p : Placements) (source output scratch after used : List ℕ) (work : ℕ) : Type 0 where
  pub written_is : after ≡ written (output_page p) (finished_with white t (source_page p) source) output
  pub used_is : used ≡ cleared (job_scratch t p) scratch
  pub work_is : work ≡ job_work t p.width p.height

-- what the job of a ticket that was read does
pub record RanRead (t : Ticket) (white : ℕ) (p : Placements) (source output scratch after used : List ℕ)
    (given : Answer) : Type 0 where
  pub answered : given ≡ (judge_places t p (lengths source output scratch) then done_with (job_work t p.width p.height))
  pub written_is : after ≡ when_done given (written (output_page p) (finished_with white t (source_page p) source) output) output
  pub used_is : used ≡ when_done given (cleared (job_scratch t p) scratch) scratch
