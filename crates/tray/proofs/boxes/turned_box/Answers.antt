-- `tray::boxes::turned_box` meets its contract. Assumes nothing.
use Rattle.tray.specs.Turned.{down_of, across_of, turned_box}
use Rattle.tray.proofs.boxes.turned_box.Goals as goal

pub returns-then-lay : goal.returns-then-lay
unfolding turned_box down_of across_of
returns-then-lay c =
    let sides = c.mirrored_sides-left in
    rw (c.if-lay.true, sides.ensures.0, sides.ensures.1)

pub returns-else-lay : goal.returns-else-lay
unfolding turned_box down_of across_of
returns-else-lay c =
    let sides = c.mirrored_sides-left-else-lay in
    rw (c.if-lay.false, sides.ensures.0, sides.ensures.1)
