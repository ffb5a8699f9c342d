-- `sotrugla::sotrugla_run` meets its contract: the job's promise, in numbers. Assumes nothing.
use Rattle.sotrugla.proofs.Named.{told}
use Rattle.sotrugla.proofs.sotrugla_run.Goals as goal

pub returns : goal.returns
returns c = let whole = told _ _ _ _ _ _ _ _ _ _ c.placements-at.ensures (c.run.ensures.answered, (c.run.ensures.written, c.run.ensures.cleared)) c.outcome_of.ensures in record { answered = whole.0; written = whole.1.0; cleared = whole.1.1 }
