-- `tray::paint::clear` meets its contract: the first n bytes are filled with zero. Assumes nothing.
use Rattle.std.proofs.Common.{length-take-le}
use Rattle.tray.specs.Written.{cleared}
use Rattle.tray.proofs.paint.clear.Goals as goal

pub returns : goal.returns
unfolding cleared
returns c = rw (c.fill.ensures.after (λ y e. e), length-take-le c.args.n c.args.scratch.now c.requires)
