-- `sotrugla::files::sotrugla_run_pgm` meets its contract: the job's promise, in numbers. Assumes nothing.
use mathlib.Core.Path.{ap, ◌∙◌}
use Rattle.sotrugla.specs.Files.{pgm_run_of}
use Rattle.sotrugla.proofs.files.sotrugla_run_pgm.Goals as goal

pub returns : goal.returns
returns c = record { answered = c.pgm_run_of.ensures ∙ ap pgm_run_of c.run.ensures.answered; written = c.run.ensures.written; cleared = c.run.ensures.cleared }
