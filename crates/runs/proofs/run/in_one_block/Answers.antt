-- `runs::run::in_one_block` meets its contract, arm by arm. Assumes nothing.
use mathlib.Core.Path.{refl}
use borrow.Author.Tests.{le-leb, lt-leb}
use Rattle.runs.specs.Runs.{in_one_block}
use Rattle.runs.proofs.run.in_one_block.Goals as goal

pub returns-then-mark-last : goal.returns-then-mark-last
unfolding in_one_block
returns-then-mark-last c = rw (le-leb _ _ c.if-mark-last.true) refl

pub returns-else-mark-last : goal.returns-else-mark-last
unfolding in_one_block
returns-else-mark-last c = rw (lt-leb _ _ c.if-mark-last.false) refl
