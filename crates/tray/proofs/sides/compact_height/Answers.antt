-- `tray::sides::compact_height` meets its contract. Assumes nothing.
use mathlib.Core.Path.{refl}
use Rattle.tray.specs.Turned.{down_of}
use Rattle.tray.proofs.sides.compact_height.Goals as goal

pub returns-then-lay : goal.returns-then-lay
unfolding down_of
returns-then-lay c = rw c.if-lay.true refl

pub returns-else-lay : goal.returns-else-lay
unfolding down_of
returns-else-lay c = rw c.if-lay.false refl
