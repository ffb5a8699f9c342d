-- `tray::paint::paint` meets its contract. The invariant: the rows from top to just above r are painted, and nothing
-- else.
-- Assumes nothing.
use Rattle.tray.specs.Promises.{RectanglePainted}
use Rattle.tray.proofs.Painting.{rows}
use Rattle.tray.proofs.paint.paint.Given as goal

abbrev pub invariant-loop-r : goal.invariant-loop-r
invariant-loop-r l = RectanglePainted l.w (rows l.x.top l.x.left l.x.right l.r) l.value l.initial.page l.page
