-- `runs::run::kept_or_chosen` meets its contract, arm by arm. Assumes nothing.
use mathlib.Core.Path.{refl}
use Rattle.runs.specs.Span.{chosen}
use Rattle.runs.specs.Runs.{kept_or}
use Rattle.runs.proofs.run.kept_or_chosen.Goals as goal

pub returns-then-keeps : goal.returns-then-keeps
unfolding kept_or
returns-then-keeps c = rw c.if-keeps.true refl

pub returns-else-keeps : goal.returns-else-keeps
unfolding kept_or chosen
returns-else-keeps c = rw c.if-keeps.false (rw c.if-low.true c.min.ensures)

pub returns-then-keeps-2 : goal.returns-then-keeps-2
unfolding kept_or
returns-then-keeps-2 c = rw c.if-keeps-2.true refl

pub returns-else-keeps-2 : goal.returns-else-keeps-2
unfolding kept_or chosen
returns-else-keeps-2 c = rw c.if-keeps-2.false (rw c.if-low.false c.max.ensures)
