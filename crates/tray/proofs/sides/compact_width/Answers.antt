-- `tray::sides::compact_width` meets its contract. Assumes nothing.
use mathlib.Core.Path.{refl}
use Rattle.tray.specs.Turned.{across_of}
use Rattle.tray.proofs.sides.compact_width.Goals as goal

pub returns-then-lay : goal.returns-then-lay
unfolding across_of
returns-then-lay c = rw c.if-lay.true refl

pub returns-else-lay : goal.returns-else-lay
unfolding across_of
returns-else-lay c = rw c.if-lay.false refl
