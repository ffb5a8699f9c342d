-- `listing::answers::clear` meets its contract: the numbers of all answers are filled with zero. Assumes nothing.
use Rattle.std.proofs.Common.{length-take-le}
use Rattle.tray.specs.Written.{cleared}
use Rattle.listing.proofs.answers.clear.Goals as goal

pub returns : goal.returns
unfolding cleared
returns c = rw (c.fill.ensures.after (λ y e. e), length-take-le 768 c.args.answers.now c.requires)
