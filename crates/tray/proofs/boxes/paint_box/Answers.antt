-- `tray::boxes::paint_box` meets its contract: the turned rectangle is painted. Assumes nothing.
use Rattle.tray.proofs.Rectangles.{box_in_rows_as, box_painted_as}
use Rattle.tray.proofs.boxes.paint_box.Goals as goal

pub paint-requires : goal.paint-requires
paint-requires c =
    let a = c.args in
    let turned = c.turned_box-y.ensures in
    box_in_rows_as a.lay a.x c.requires.rectangle_fits _ _ turned c.compact_width-w.ensures _
    c.requires.height_in_bounds

pub returns : goal.returns
returns c =
    let a = c.args in
    let turned = c.turned_box-y.ensures in
    let painted = c.paint.ensures in
    box_painted_as a.lay a.x c.requires.rectangle_fits _ _ turned c.compact_width-w.ensures _ _ _ painted
