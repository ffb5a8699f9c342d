-- `filter::passes::back_of` meets its contract. Assumes nothing.
use mathlib.Core.Path.{refl}
use Rattle.filter.specs.Filters.{dilation_back}
use Rattle.filter.specs.Engine.{back_of}
use Rattle.filter.proofs.passes.back_of.Goals as goal

pub returns-then-low : goal.returns-then-low
unfolding back_of
returns-then-low c = rw c.if-low.true refl

pub returns-else-low : goal.returns-else-low
unfolding back_of dilation_back
returns-else-low c = rw c.if-low.false refl
