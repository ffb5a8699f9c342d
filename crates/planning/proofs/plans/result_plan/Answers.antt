-- `planning::plans::result_plan` meets its contract: its places are in the pages, as the row of the window's first
-- pixel is.
-- Assumes nothing.
use native.Mathlib.Omega.{arith}
use Rattle.runs.proofs.Planning.{rows_back, place_on_near}
use Rattle.planning.proofs.plans.result_plan.Goals as goal

pub overflow_sub-start : goal.overflow_sub-start
overflow_sub-start c =
    rows_back _ _ _ _ _ c.args.at.now.in_page _ c.requires.back_le_step.0

pub overflow_add-result-2 : goal.overflow_add-result-2
overflow_add-result-2 c =
    record { fits = omega (arith, c.place_on-end.ensures, place_on_near _ _ _ _ _ c.args.at.now.in_page _ c.requires.row, c.requires.back_le_step.1, c.args.at.now.in_page.sized.width_most) }
