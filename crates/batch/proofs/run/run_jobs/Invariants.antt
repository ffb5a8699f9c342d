-- `batch::run::run_jobs` meets its contract: after k turns the trays are as after k jobs, and what is stored and still
-- to be stored are all answers. Assumes nothing.
use Rattle.batch.specs.Batch.{lent, trays}
use Rattle.batch.proofs.Running.{Underway}
use Rattle.batch.proofs.run.run_jobs.Given as goal

abbrev pub invariant-loop-k : goal.invariant-loop-k
invariant-loop-k l =
    let lent-now = lent l.jobs l.tickets l.source l.initial.output l.initial.scratch in
    Underway l.count lent-now l.initial.answers l.k (trays l.output l.scratch) l.answers
