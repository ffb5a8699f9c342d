-- `sweep::rest::step_edge` meets its contract: past the last row no column, else up to where lines are lost. Assumes
-- nothing.
use mathlib.Core.Path.{sym, subst, ◌∙◌}
use native.Mathlib.Omega.{arith}
use Rattle.runs.specs.Runs.{StepEdge}
use Rattle.runs.proofs.Planning.{here, to_below}
use Rattle.sweep.proofs.Resting.{edge_past, edge_lost}
use Rattle.sweep.proofs.rest.step_edge.Goals as goal

pub overflow_mul-target : goal.overflow_mul-target
overflow_mul-target c =
    let at = c.args.at.now.in_page in
    record { fits = omega (arith, (here _ _ _ _ _ at).rows, at.row, at.sized.height_most) }

pub overflow_sub-target : goal.overflow_sub-target
overflow_sub-target c = (here _ _ _ _ _ c.args.at.now.in_page).rows

pub returns-then-g-target : goal.returns-then-g-target
returns-then-g-target c =
    edge_past c.args.at.now.in_page _ _ c.requires.1 c.requires.2 c.if-g-target.true

pub entry_of-reached-requires : goal.entry_of-reached-requires
entry_of-reached-requires c =
    let at = c.args.at.now.in_page in
    omega (arith, to_below _ _ _ _ _ at c.args.to (omega (arith, c.if-g-target.false)), at.tabled.profile_long)

pub returns : goal.returns
returns c =
    let a = c.args in
    let at = a.at.now.in_page in
    let g = a.at.now.tables.grid in
    let rows = c.if-g-target.false in
    let reached = c.entry_of-reached.ensures ∙ at.tabled.profile_is a.to (to_below _ _ _ _ _ at _ rows) in
    let own = c.drift_of.ensures in
    subst (StepEdge g a.at.now.row a.at.now.step a.lo a.to)
    (sym (omega (arith, c.saturating_sub-lost.ensures, c.saturating_sub.ensures, c.max.ensures, reached, own)))
    (edge_lost at _ _ c.requires.1 c.requires.2 rows)
