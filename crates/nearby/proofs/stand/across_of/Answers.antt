-- `stand::across_of` meets its contract.
-- Assumes nothing.
use Rattle.tray.specs.Turned.{across_of}
use Rattle.nearby.proofs.stand.across_of.Goals as goal

pub returns-then-steep : goal.returns-then-steep
unfolding across_of
returns-then-steep c = rw c.if-steep.true

pub returns-else-steep : goal.returns-else-steep
unfolding across_of
returns-else-steep c = rw c.if-steep.false
