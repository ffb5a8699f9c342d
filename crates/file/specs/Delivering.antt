-- What the functions below the job on a file promise one another. Nothing here is needed to read what the job does
-- (FileJob).
-- Assumes nothing.
use Rattle.std.specs.Prelude.{◌≡◌, List, ℕ, Result}
use Rattle.refusal.specs.Answer.{when_done, Answer, done_with}
use Rattle.refusal.specs.Chain.{◌then◌}
use Rattle.refusal.specs.declared.Refused.{Refused}
use Rattle.ticket.specs.declared.Ticket.{Ticket}
use Rattle.placement.specs.Placement.{source_page, output_page}
use Rattle.tray.specs.Written.{written, cleared}
use Rattle.pgm.specs.declared.Header.{Header}
use Rattle.judging.specs.Judging.{judge_places}
use Rattle.job.specs.Job.{finished_with, job_work, lengths}
use Rattle.judging.specs.Pages.{job_scratch}
use Rattle.judging.specs.declared.Lengths.{Lengths}
use Rattle.file.specs.Places.{header_for, places_of, file_length, headed}
use Rattle.file.specs.FileJob.{with_length}
use Rattle.file.specs.declared.Finished.{Finished}

-- refusals 10 to 14 of a ticket and a header that were read
unfoldable pub answer_for : Ticket → Header → Lengths → Answer
answer_for t h n = judge_places t (places_of h) n then done_with (job_work t h.width h.height)

-- what the job of a ticket and a header that were read does
pub record Delivered (t : Ticket) (h : Header) (file output scratch after used : List ℕ)
    (given : Result Finished Refused) : Type 0 where
  pub answered : given ≡ with_length (answer_for t h (lengths file output scratch)) (file_length h)
  pub written_is :
      after
      ≡ when_done (answer_for t h (lengths file output scratch))
      (headed (header_for h)
      (written (output_page (places_of h)) (finished_with h.maximum t (source_page (places_of h)) file) output))
      output
  pub used_is :
      used
      ≡ when_done (answer_for t h (lengths file output scratch)) (cleared (job_scratch t (places_of h)) scratch) scratch
