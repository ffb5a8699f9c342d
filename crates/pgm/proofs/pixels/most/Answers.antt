-- `pgm::pixels::most` meets its contract: what is found and the greatest pixel left make the greatest. Assumes nothing.
use mathlib.Core.Path.{◌∙◌}
use native.Mathlib.Omega.{arith}
use Rattle.pgm.proofs.Images.{greatest_on, greatest_ended}
use Rattle.pgm.proofs.pixels.most.Goals as goal

pub loop-pixel-preserved : goal.loop-pixel-preserved
loop-pixel-preserved c =
    let l = c.loop-pixel in
    rw c.max-found.ensures (greatest_on c.args.pixels.now l.pixel-index (omega arith) l.found ∙ l.invariant)

pub returns : goal.returns
returns c =
    let l = c.loop-pixel in
    greatest_ended c.args.pixels.now l.pixel-index (omega arith) l.found ∙ l.invariant
