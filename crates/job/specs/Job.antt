-- The job as three functions. The answer takes the ticket's bytes, the placements and the three lengths, and
-- nothing else: "Refusals, places and work: ticket bytes, placements and the three lengths only."
-- Assumes nothing.
use Rattle.std.specs.Prelude.{ℕ, List, length}
use Rattle.refusal.specs.Answer.{when_done, Answer, done_with}
use Rattle.refusal.specs.Chain.{◌then◌}
use Rattle.ticket.specs.Judging.{judged}
use Rattle.ticket.specs.Reading.{shown}
use Rattle.ticket.specs.declared.Ticket.{Ticket}
use Rattle.placement.specs.Placement.{pixel_in, source_page, output_page}
use Rattle.placement.specs.declared.Placement.{Placement}
use Rattle.placement.specs.declared.Placements.{Placements}
use Rattle.tray.specs.Written.{written, cleared}
use Rattle.filter.specs.Filters.{filtered_page}
use Rattle.filter.specs.Work.{work_of}
use Rattle.job.specs.Order.{segment_of, recipe_of, white}
use Rattle.judging.specs.Pages.{job_scratch}
use Rattle.judging.specs.Judging.{judge_places}
use Rattle.judging.specs.declared.Lengths.{Lengths}

-- the finished page, by column and row: what the filter makes of the page that stands in a tray, with this white
unfoldable pub finished_with : ℕ → Ticket → Placement → List ℕ → ℕ → ℕ → ℕ
finished_with white t p tray c r = filtered_page (recipe_of t white) p.width p.height (pixel_in tray p) c r

-- a tray's own pages have 255
abbrev pub finished : Ticket → Placement → List ℕ → ℕ → ℕ → ℕ
finished t p tray c r = finished_with white t p tray c r

-- the comparisons on a page w by h
unfoldable pub job_work : Ticket → ℕ → ℕ → ℕ
job_work t w h = work_of t.operation (segment_of t) w h

-- refusals 1 to 9 come first, then 10 to 14; a page that nothing refuses is finished
unfoldable pub answer : List ℕ → Placements → Lengths → Answer
answer ticket p n =
    judged ticket then judge_places (shown ticket) p n then done_with (job_work (shown ticket) p.width p.height)

abbrev pub lengths : List ℕ → List ℕ → List ℕ → Lengths
lengths source output scratch = record { source = length source; output = length output; scratch = length scratch }

-- the output tray: "A refused job writes nothing. A finished one writes only its page"
unfoldable pub output_after : List ℕ → Placements → List ℕ → List ℕ → List ℕ → List ℕ
output_after ticket p source out scratch =
    when_done (answer ticket p (lengths source out scratch))
    (written (output_page p) (finished (shown ticket) (source_page p) source) out)
    out

-- the scratch: "they hold zero at the end of a finished job. Later scratch bytes keep their values."
unfoldable pub scratch_after : List ℕ → Placements → List ℕ → List ℕ → List ℕ → List ℕ
scratch_after ticket p source out scratch =
    when_done (answer ticket p (lengths source out scratch)) (cleared (job_scratch (shown ticket) p) scratch) scratch
