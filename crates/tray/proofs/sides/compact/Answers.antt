-- `tray::sides::compact` meets its contract. Assumes nothing.
use Rattle.tray.specs.Turned.{compact_of}
use Rattle.tray.proofs.sides.compact.Goals as goal

pub returns : goal.returns
unfolding compact_of
returns c = rw (c.compact_width-width.ensures, c.compact_height-height.ensures)
