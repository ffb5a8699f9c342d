-- `runs::step::place_at` meets its contract: the step's row and column. Assumes nothing.
use mathlib.Core.Path.{ap₂, ◌∙◌}
use Prim.Native.Nat.{ℕ, ◌+◌, ◌-◌, ◌*◌, ◌≤◌}
use native.Mathlib.Omega.{arith}
use Rattle.runs.specs.Runs.{place_at}
use Rattle.runs.proofs.Bounds.{product}
use Rattle.runs.proofs.Planning.{here, to_below, drift_near}
use Rattle.runs.proofs.step.place_at.Goals as goal

pub overflow_mul-target : goal.overflow_mul-target
overflow_mul-target c =
    let at = c.args.at.now.in_page in
    record { fits = omega (arith, (here _ _ _ _ _ at).rows, at.row, at.sized.height_most) }

pub overflow_sub-target : goal.overflow_sub-target
overflow_sub-target c = (here _ _ _ _ _ c.args.at.now.in_page).rows

pub entry_of-requires : goal.entry_of-requires
entry_of-requires c =
    omega (arith, to_below _ _ _ _ _ c.args.at.now.in_page _ c.requires.row, c.args.at.now.in_page.tabled.profile_long)

pub overflow_add-result : goal.overflow_add-result
overflow_add-result c =
    let at = c.args.at.now.in_page in
    let reached = c.entry_of.ensures ∙ at.tabled.profile_is c.args.to (to_below _ _ _ _ _ at _ c.requires.row) in
    record { fits = omega (arith, reached, drift_near _ _ _ _ _ at _ c.requires.row, at.sized.height_most, c.requires.to_bound.1, at.sized.width_most) }

pub entry_of-requires-2 : goal.entry_of-requires-2
entry_of-requires-2 c =
    let at = c.args.at.now.in_page in
    omega (arith, (here _ _ _ _ _ at).step_below, at.tabled.profile_long)

pub overflow_sub-result : goal.overflow_sub-result
overflow_sub-result c =
    let at = c.args.at.now.in_page in
    let own = c.entry_of-2.ensures ∙ (here _ _ _ _ _ at).drift_read in
    let reached = c.entry_of.ensures ∙ at.tabled.profile_is c.args.to (to_below _ _ _ _ _ at _ c.requires.row) in
    omega (arith, own, reached, c.requires.to_bound.2)

pub overflow_add-result-2 : goal.overflow_add-result-2
overflow_add-result-2 c =
    let at = c.args.at.now.in_page in
    let sized = at.sized in
    let r = c.args.at.now in
    let low : r.row - r.step * r.tables.grid.period + c.args.to * r.tables.grid.period ≤ 8192 = omega (arith, c.requires.row, sized.height_most) in
    let reached = c.entry_of.ensures ∙ at.tabled.profile_is c.args.to (to_below _ _ _ _ _ at _ c.requires.row) in
    record { fits = omega (arith, product low sized.width_most, reached, drift_near _ _ _ _ _ at _ c.requires.row, sized.height_most, c.requires.to_bound.1, sized.width_most) }

pub returns : goal.returns
unfolding place_at
returns c =
    let at = c.args.at.now.in_page in
    let a = c.args in
    let r = a.at.now in
    let g = r.tables.grid in
    let reached = c.entry_of.ensures ∙ at.tabled.profile_is a.to (to_below _ _ _ _ _ at _ c.requires.row) in
    let own = c.entry_of-2.ensures ∙ (here _ _ _ _ _ at).drift_read in
    ap₂ (λ (d e : ℕ). (r.row - r.step * g.period + a.to * g.period) * g.width + (a.x + d - e)) reached own
