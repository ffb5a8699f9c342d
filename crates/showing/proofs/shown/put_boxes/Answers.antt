-- `showing::shown::put_boxes` meets its contract: the boxes put, and those still to be put, are all. Assumes nothing.
use mathlib.Core.Path.{refl, ◌∙◌}
use native.Mathlib.Omega.{arith}
use Rattle.showing.proofs.Numbers.{box_more, boxes_put}
use Rattle.showing.proofs.shown.put_boxes.Goals as goal

pub loop-k-init : goal.loop-k-init
loop-k-init c = refl

pub loop-k-preserved : goal.loop-k-preserved
loop-k-preserved c =
    box_more c.args.boxes.now c.loop-k.k c.loop-k.numbers _ _ (omega (arith, c.requires.0)) c.put_box.ensures
    ∙ c.loop-k.invariant

pub returns : goal.returns
returns c =
    boxes_put c.args.boxes.now c.loop-k.k c.loop-k.numbers _ (omega (arith, c.requires.0)) c.requires.0
    c.loop-k.invariant
