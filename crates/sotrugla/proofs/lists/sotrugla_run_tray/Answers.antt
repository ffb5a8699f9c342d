-- `sotrugla::lists::sotrugla_run_tray` meets its contract: the call's promise, in numbers. Assumes nothing.
use mathlib.Core.Path.{ap, ◌∙◌}
use Rattle.showing.specs.Outcome.{outcome_of}
use Rattle.sotrugla.proofs.lists.sotrugla_run_tray.Goals as goal

pub returns : goal.returns
returns c = record { answered = c.outcome_of.ensures ∙ ap outcome_of c.run.ensures.answered; written = c.run.ensures.written; cleared = c.run.ensures.cleared; told = c.run.ensures.told }
