-- `filter::passes::neutral_of` meets its contract. Assumes nothing.
use mathlib.Core.Path.{refl}
use Rattle.filter.specs.Engine.{neutral}
use Rattle.filter.proofs.passes.neutral_of.Goals as goal

pub returns-then-low : goal.returns-then-low
unfolding neutral
returns-then-low c = rw c.if-low.true refl

pub returns-else-low : goal.returns-else-low
unfolding neutral
returns-else-low c = rw c.if-low.false refl
