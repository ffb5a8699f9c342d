-- `job::job::run` meets its contract: read, then run. Assumes nothing.
use native.Mathlib.Omega.{arith}
use Rattle.ticket.specs.Laws.{read_allowed}
use Rattle.job.proofs.Running.{job_read}
use Rattle.job.proofs.job.run.Goals as goal

pub run_read-requires : goal.run_read-requires
run_read-requires c = read_allowed c.args.ticket.now _ (λ k. omega (arith, c.type_inv.ticket k)) (grind arith)

pub returns : goal.returns
returns c =
    let whole = job_read _ _ _ _ _ _ _ _ c.run_read.ensures (grind arith) in
    record { answered = whole.0; written = whole.1.0; cleared = whole.1.1 }
