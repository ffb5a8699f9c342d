-- `ticket::fill::find_boxes` meets its contract: the places filled and the boxes from the next head on are the
-- ticket's boxes.
-- Assumes nothing.
use mathlib.Core.Path.{◌≡◌, refl, ◌∙◌}
use native.Mathlib.Omega.{arith}
use Rattle.ticket.proofs.Boxes.{walk_starts, walk_on, walk_counted, walk_placed, over_at_end, over_when_full}
use Rattle.ticket.proofs.fill.find_boxes.Goals as goal

pub loop-count-init : goal.loop-count-init
loop-count-init c = walk_starts c.args.s.now _ refl

pub returns-then-s-head : goal.returns-then-s-head
returns-then-s-head c =
    let l = c.loop-count in
    let s = c.args.s.now in
    let over = over_at_end s l.head l.count l.places l.invariant (omega arith) in
    record {
      counted = walk_counted s l.head l.count l.places l.invariant over;
      placed = walk_placed s l.head l.count l.places l.invariant over;
    }

pub loop-count-preserved : goal.loop-count-preserved
loop-count-preserved c =
    let l = c.loop-count in
    let s = c.args.s.now in
    let next = c.field_end-head.ensures in
    walk_on s l.head l.count l.places l.invariant (omega arith) (omega arith) c.box_at.ensures next.ends
    next.near

pub returns : goal.returns
returns c =
    let l = c.loop-count in
    let s = c.args.s.now in
    let over = over_when_full s l.head l.count l.places l.invariant (omega arith) in
    let full : 64 ≡ l.count = omega (arith, l.invariant.some) in
    record {
      counted = full ∙ walk_counted s l.head l.count l.places l.invariant over;
      placed = walk_placed s l.head l.count l.places l.invariant over;
    }
