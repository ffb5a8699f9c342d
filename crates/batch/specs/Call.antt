-- A whole tray in one call: what is answered, and what every buffer holds afterwards. Document 02, wish 3: "a refused
-- job is answered and the rest go on; 256 answers come back, zero past the list and at 18." "Refusals: 18, more than
-- 256 jobs, for the whole list before any job, place 0." What becomes of a buffer of numbers that is too short is
-- decided here.
-- Assumes nothing.
use Rattle.std.specs.Prelude.{cond, List, [], ◌++◌, ℕ, zero, suc, ◌-◌, ◌*◌, leb, length, replicate, drop}
use Rattle.refusal.specs.Answer.{when_done, Answer}
use Rattle.refusal.specs.Chain.{unless, ◌then◌}
use Rattle.refusal.specs.declared.Later.TheVariants.{TooManyJobs, NumbersTooFew}
use Rattle.refusal.specs.declared.Refusal.TheVariants.{Later}
use Rattle.tray.specs.Written.{cleared}
use Rattle.listing.specs.Numbers.{job_numbers, answers_needed, told}
use Rattle.batch.specs.Batch.{Lent, trays_after, answer_at}

-- "up to 256 jobs"
abbrev pub most_jobs : ℕ
most_jobs = 256

-- the answer for the whole list, by the lengths of the two buffers of numbers; the work stands with each job
unfoldable pub list_answer : ℕ → ℕ → ℕ → Answer
list_answer count numbers answers =
    unless (leb answers_needed answers) (Later NumbersTooFew) answers_needed
    then unless (leb count most_jobs) (Later TooManyJobs) 0
    then unless (leb (job_numbers count) numbers) (Later NumbersTooFew) (job_numbers count)

abbrev pub answer_of : ℕ → Lent → List ℕ → Answer
answer_of count l answers = list_answer count (length l.jobs) (length answers)

-- the output tray and the scratch: as the last job leaves them, and at a refusal of the list as they were
unfoldable pub list_output_after : ℕ → Lent → List ℕ → List ℕ
list_output_after count l answers = when_done (answer_of count l answers) (trays_after l count).output l.output

unfoldable pub list_scratch_after : ℕ → Lent → List ℕ → List ℕ
list_scratch_after count l answers = when_done (answer_of count l answers) (trays_after l count).scratch l.scratch

-- the answers of n jobs, from job k on
unfoldable pub told_from : Lent → ℕ → ℕ → List ℕ
told_from l k zero = []
told_from l k (suc n) = told (answer_at l k) (told_from l (suc k) n)

-- "256 answers come back, zero past the list"
unfoldable pub answers_of : Lent → ℕ → List ℕ
answers_of l count = told_from l 0 count ++ replicate (answers_needed - 3 * count) 0

-- the answers: too short a buffer of numbers leaves them unwritten; "zero .. at 18"; numbers past the 768th keep their
-- values
unfoldable pub list_answers_after : ℕ → Lent → List ℕ → List ℕ
list_answers_after count l answers =
    cond (leb answers_needed (length answers))
    (cond (leb count most_jobs)
    (cond (leb (job_numbers count) (length l.jobs)) (answers_of l count ++ drop answers_needed answers) answers)
    (cleared answers_needed answers))
    answers
