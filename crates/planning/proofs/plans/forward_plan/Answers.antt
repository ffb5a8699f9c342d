-- `planning::plans::forward_plan` meets its contract: its places are in the pages, as the row before is.
-- Assumes nothing.
use native.Mathlib.Omega.{arith}
use Rattle.runs.proofs.Planning.{rows_back}
use Rattle.planning.proofs.plans.forward_plan.Goals as goal

pub overflow_sub-result : goal.overflow_sub-result
overflow_sub-result c =
    omega (arith, rows_back _ _ _ _ _ c.args.at.now.in_page 1 c.requires)
