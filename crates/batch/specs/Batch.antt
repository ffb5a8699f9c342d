-- The jobs of a list, one after the other. Document 02, wish 3: "on one source tray, output tray and scratch", and "The
-- answers, trays and scratch equal those of single calls in list order": a fold of what a single job answers and
-- leaves, and nothing else.
-- Assumes nothing.
use Rattle.std.specs.Prelude.{List, ℕ, zero, suc}
use Rattle.refusal.specs.Answer.{Answer}
use Rattle.job.specs.Job.{lengths, answer, output_after, scratch_after}
use Rattle.listing.specs.Listed.{listed_at, ticket_of}
use Rattle.listing.specs.declared.Listed.{Listed}

-- what the jobs of a list are lent: their numbers, the buffer of tickets, and the trays as they are before the first
pub record Lent : Type 0 where
  pub jobs : List ℕ
  pub tickets : List ℕ
  pub source : List ℕ
  pub output : List ℕ
  pub scratch : List ℕ

abbrev pub lent : List ℕ → List ℕ → List ℕ → List ℕ → List ℕ → Lent
lent jobs tickets source output scratch =
    record { jobs = jobs; tickets = tickets; source = source; output = output; scratch = scratch }

-- what jobs write to: the output tray and the scratch
pub record Trays : Type 0 where
  pub output : List ℕ
  pub scratch : List ℕ

abbrev pub trays : List ℕ → List ℕ → Trays
trays output scratch = record { output = output; scratch = scratch }

-- a single call: its answer, and the trays that it leaves
unfoldable pub single_answer : List ℕ → List ℕ → Listed → Trays → Answer
single_answer tickets source job t =
    answer (ticket_of tickets job) job.places (lengths source t.output t.scratch)

unfoldable pub after_job : List ℕ → List ℕ → Listed → Trays → Trays
after_job tickets source job t =
    record {
      output = output_after (ticket_of tickets job) job.places source t.output t.scratch;
      scratch = scratch_after (ticket_of tickets job) job.places source t.output t.scratch;
    }

-- the trays after the first k jobs: so job k finds them, and so the job before it leaves them
unfoldable pub trays_after : Lent → ℕ → Trays
trays_after l zero = trays l.output l.scratch
trays_after l (suc k) = after_job l.tickets l.source (listed_at l.jobs k) (trays_after l k)

-- the answer to job k
unfoldable pub answer_at : Lent → ℕ → Answer
answer_at l k = single_answer l.tickets l.source (listed_at l.jobs k) (trays_after l k)
