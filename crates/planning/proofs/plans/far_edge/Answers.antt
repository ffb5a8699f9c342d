-- `planning::plans::far_edge` meets its contract: past the last row no line is left, and in a row those that do not
-- drift past the right edge.
-- Assumes nothing.
use mathlib.Core.Path.{sym, refl, subst, ap, ◌∙◌}
use Prim.Native.Nat.{ℕ, ◌-◌}
use Rattle.runs.specs.Runs.{FarEdge}
use Rattle.runs.proofs.Planning.{far_on, far_past}
use Rattle.planning.proofs.plans.far_edge.Goals as goal

pub returns-then-g-at : goal.returns-then-g-at
returns-then-g-at c = far_past _ _ _ _ _ c.args.at.now.in_page _ c.if-g-at.true

pub returns : goal.returns
returns c =
    let at = c.args.at.now in
    let column = c.saturating_sub.ensures ∙ ap (λ (q : ℕ). at.tables.grid.width - q) c.drift_on.ensures in
    subst (FarEdge at.tables.grid at.row at.step c.args.b) (sym column) (far_on _ _ _ _ _ at.in_page _ c.if-g-at.false _ _ refl refl)
