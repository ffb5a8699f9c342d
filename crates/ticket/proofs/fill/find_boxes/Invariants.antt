-- `ticket::fill::find_boxes` meets its contract: the places filled and the boxes from the next head on are the
-- ticket's boxes.
-- Assumes nothing.
use Prim.Native.Nat.{◌-◌}
use Rattle.ticket.proofs.Boxes.{Walked}
use Rattle.ticket.proofs.fill.find_boxes.Given as goal

abbrev pub invariant-loop-count : goal.invariant-loop-count
invariant-loop-count l = Walked l.s l.head l.count l.places

abbrev pub decreases-loop-count : goal.decreases-loop-count
decreases-loop-count l = 64 - l.count
