-- `runs::walk::top_part` meets its contract: all columns copied, or all chosen. Assumes nothing.
use Rattle.runs.proofs.Walking.{top_copied, top_chosen}
use Rattle.runs.proofs.walk.top_part.Goals as goal

pub returns-then-p-at-eq0 : goal.returns-then-p-at-eq0
returns-then-p-at-eq0 c = top_copied _ _ _ _ _ c.if-p-at-eq0.true c.copy_part.ensures

pub returns : goal.returns
returns c = top_chosen _ _ _ _ _ _ c.if-p-at-eq0.false c.choose_part.ensures.0 c.choose_part.ensures.1
