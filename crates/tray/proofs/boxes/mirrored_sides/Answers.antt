-- `tray::boxes::mirrored_sides` meets its contract. Assumes nothing.
use Rattle.std.proofs.Common.{refl}
use Rattle.tray.specs.Turned.{mirrored_from, mirrored_to}
use Rattle.tray.proofs.boxes.mirrored_sides.Goals as goal

pub returns-then-falls : goal.returns-then-falls
unfolding mirrored_from mirrored_to
returns-then-falls c = rw c.if-falls.true (refl, refl)

pub returns-else-falls : goal.returns-else-falls
unfolding mirrored_from mirrored_to
returns-else-falls c = rw c.if-falls.false (refl, refl)
