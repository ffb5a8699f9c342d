-- `planning::plans::drift_on` meets its contract: both steps are in the table, and the drift rises. Assumes nothing.
use native.Mathlib.Omega.{arith}
use Rattle.runs.proofs.Planning.{here, on}
use Rattle.planning.proofs.plans.drift_on.Goals as goal

pub overflow_add-at : goal.overflow_add-at
overflow_add-at c =
    let at = c.args.at.now.in_page in
    record { fits = omega (arith, (on _ _ _ _ _ at _ c.requires.1).below, at.sized.height_most) }

pub entry_of-requires : goal.entry_of-requires
entry_of-requires c =
    let at = c.args.at.now.in_page in
    omega (arith, (on _ _ _ _ _ at _ c.requires.1).below, at.tabled.profile_long)

pub entry_of-requires-2 : goal.entry_of-requires-2
entry_of-requires-2 c =
    let at = c.args.at.now.in_page in
    omega (arith, (here _ _ _ _ _ at).step_below, at.tabled.profile_long)

pub overflow_sub-result : goal.overflow_sub-result
overflow_sub-result c =
    let at = c.args.at.now.in_page in
    let o = on _ _ _ _ _ at _ c.requires.1 in
    omega (arith, c.entry_of.ensures, c.entry_of-2.ensures, o.rises, o.drift_read, (here _ _ _ _ _ at).drift_read)
