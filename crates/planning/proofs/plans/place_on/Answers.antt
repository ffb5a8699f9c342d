-- `planning::plans::place_on` meets its contract: row and column of the step are read off the drift. Assumes nothing.
use mathlib.Core.Path.{refl, ap, ◌∙◌}
use Prim.Native.Nat.{ℕ, ◌+◌, ◌*◌}
use native.Mathlib.Nat.{le_of_lt}
use native.Mathlib.Omega.{arith}
use Rattle.runs.proofs.Bounds.{product}
use Rattle.runs.proofs.Planning.{on, place_is}
use Rattle.planning.proofs.plans.place_on.Goals as goal

pub overflow_add-result-2 : goal.overflow_add-result-2
overflow_add-result-2 c =
    let at = c.args.at.now.in_page in
    let o = on _ _ _ _ _ at _ c.requires.1 in
    record { fits = omega (arith, product (le_of_lt c.requires.1) at.sized.width_most, product at.sized.height_most at.sized.width_most, c.drift_on.ensures, o.drift_read, o.drift_below, at.sized.height_most) }

pub returns : goal.returns
returns c =
    let at = c.args.at.now in
    ap (λ (q : ℕ). (at.row + c.args.b * at.tables.grid.period) * at.tables.grid.width + q) c.drift_on.ensures
    ∙ place_is _ _ _ _ _ at.in_page _ c.requires.1 _ _ refl refl
