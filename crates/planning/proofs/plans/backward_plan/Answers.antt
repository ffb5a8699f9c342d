-- `planning::plans::backward_plan` meets its contract: its places are in the pages. Assumes nothing.
use native.Mathlib.Omega.{arith}
use Rattle.runs.proofs.Bounds.{product}
use Rattle.runs.proofs.Planning.{here, place_on_near}
use Rattle.planning.proofs.plans.backward_plan.Goals as goal

pub overflow_add-result : goal.overflow_add-result
overflow_add-result c =
    let sized = c.args.at.now.in_page.sized in
    record { fits = omega (arith, product sized.height_most sized.width_most, c.place_on-next.ensures, place_on_near _ _ _ _ _ c.args.at.now.in_page 1 c.requires) }

pub overflow_add-result-2 : goal.overflow_add-result-2
overflow_add-result-2 c =
    let at = c.args.at.now.in_page in
    record { fits = omega (arith, (here _ _ _ _ _ at).step_below, at.sized.height_most) }
