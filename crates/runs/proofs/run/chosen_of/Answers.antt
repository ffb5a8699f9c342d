-- `runs::run::chosen_of` meets its contract. Assumes nothing.
use Rattle.runs.specs.Span.{chosen}
use Rattle.runs.proofs.run.chosen_of.Goals as goal

pub returns-then-low : goal.returns-then-low
unfolding chosen
returns-then-low c = rw c.if-low.true c.min.ensures

pub returns-else-low : goal.returns-else-low
unfolding chosen
returns-else-low c = rw c.if-low.false c.max.ensures
