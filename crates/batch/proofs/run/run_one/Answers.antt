-- `batch::run::run_one` meets its contract: the job's promise, said of the list's numbers. Assumes nothing.
use Rattle.batch.proofs.Running.{ran_one}
use Rattle.batch.proofs.run.run_one.Goals as goal

pub returns : goal.returns
returns c =
    ran_one _ _ _ _ _ _ _ _ _ _ c.job_at-job.ensures
    c.ticket_of-ticket.ensures
    (c.run.ensures.answered, (c.run.ensures.written, c.run.ensures.cleared))
