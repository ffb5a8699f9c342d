-- `ask::judge_pixel` meets its contract. Assumes nothing.
use borrow.Author.Rules.{rules}
use Rattle.why.specs.Told.{judge_pixel}
use Rattle.why.proofs.ask.judge_pixel.Goals as goal

pub returns : goal.returns
unfolding judge_pixel
returns c = search rules
