-- `steps::without_steps` meets its contract. Assumes nothing.
use borrow.Author.Rules.{rules}
use Rattle.why.specs.Reason.{without_steps}
use Rattle.why.proofs.steps.without_steps.Goals as goal

pub returns : goal.returns
unfolding without_steps
returns c = search rules
