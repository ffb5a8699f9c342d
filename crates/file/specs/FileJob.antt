-- The job on a file: the file is the source tray, white is its maximum. Answer, output and scratch are three functions.
-- Document 02, wish 1: "a page with a smaller maximum is filtered as it is, a hidden pixel coming out as that maximum",
-- "in this order, before 10".
-- Assumes nothing.
use Rattle.std.specs.Prelude.{ℕ, List, Result, Ok, Err}
use Rattle.refusal.specs.Answer.{when_done, work_in, Answer, done_with, giving}
use Rattle.refusal.specs.Chain.{◌then◌}
use Rattle.refusal.specs.declared.Refused.{Refused}
use Rattle.ticket.specs.Judging as tickets
use Rattle.ticket.specs.Reading.{shown}
use Rattle.ticket.specs.declared.Ticket.{Ticket}
use Rattle.placement.specs.Placement.{source_page, output_page}
use Rattle.tray.specs.Written.{written, cleared}
use Rattle.pgm.specs.Reading as pgm
use Rattle.pgm.specs.declared.Header.{Header}
use Rattle.judging.specs.Judging.{judge_places}
use Rattle.job.specs.Job.{finished_with, job_work, lengths}
use Rattle.judging.specs.Pages.{job_scratch}
use Rattle.judging.specs.declared.Lengths.{Lengths}
use Rattle.file.specs.Places.{header_for, places_of, file_length, headed}
use Rattle.file.specs.declared.Finished.{Finished}

-- the header as it was read
abbrev pub header : List ℕ → Header
header file = pgm.header_in file

-- the page that is given back, by column and row
unfoldable pub file_page : Ticket → List ℕ → ℕ → ℕ → ℕ
file_page t file c r = finished_with (header file).maximum t (source_page (places_of (header file))) file c r

-- the ticket's own refusals, then 15 to 17, then 10 to 14
unfoldable pub file_answer : List ℕ → List ℕ → Lengths → Answer
file_answer ticket file n =
    tickets.judged ticket
    then pgm.judged file
    then judge_places (shown ticket) (places_of (header file)) n
    then done_with (job_work (shown ticket) (header file).width (header file).height)

-- an answer's work and the length of the file that was written, or its refusal
unfoldable pub with_length : Answer → ℕ → Result Finished Refused
with_length answer length = giving answer (record { work = work_in answer; length = length })

-- the length that it tells, 0 at a refusal
unfoldable pub length_in : Result Finished Refused → ℕ
length_in (Ok finished) = finished.length
length_in (Err refused) = 0

-- the answer, with the length of the file
unfoldable pub delivery : List ℕ → List ℕ → Lengths → Result Finished Refused
delivery ticket file n = with_length (file_answer ticket file n) (file_length (header file))

-- the output: "nothing is written at a refusal, later output bytes keep their values"
unfoldable pub file_output_after : List ℕ → List ℕ → List ℕ → List ℕ → List ℕ
file_output_after ticket file out scratch =
    when_done (file_answer ticket file (lengths file out scratch))
    (headed (header_for (header file))
    (written (output_page (places_of (header file))) (file_page (shown ticket) file) out))
    out

-- the scratch
unfoldable pub file_scratch_after : List ℕ → List ℕ → List ℕ → List ℕ → List ℕ
file_scratch_after ticket file out scratch =
    when_done (file_answer ticket file (lengths file out scratch))
    (cleared (job_scratch (shown ticket) (places_of (header file))) scratch)
    scratch
