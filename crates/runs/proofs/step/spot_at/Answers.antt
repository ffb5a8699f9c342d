-- `runs::step::spot_at` meets its contract: a step is off the page below it, left of it or right of it, or it has
-- its place.
-- Assumes nothing.
use mathlib.Core.Path.{ap₂, ◌∙◌}
use Prim.Native.Nat.{ℕ, ◌+◌, ◌-◌, ◌*◌}
use native.Mathlib.Omega.{arith}
use Rattle.runs.proofs.Bounds.{row}
use Rattle.runs.proofs.Planning.{pixel}
use Rattle.runs.proofs.Spots.{target, spot_low, to_below, to_small, spot_left, spot_right, spot_in}
use Rattle.runs.proofs.step.spot_at.Goals as goal

pub overflow_mul-start : goal.overflow_mul-start
overflow_mul-start c =
    let at = pixel _ _ _ _ _ c.args.at.now.in_page _ c.requires.0 in
    record { fits = omega (arith, (row _ _ _ _ _ _ at).rows, at.row, at.sized.height_most) }

pub overflow_sub-start : goal.overflow_sub-start
overflow_sub-start c = (row _ _ _ _ _ _ (pixel _ _ _ _ _ c.args.at.now.in_page _ c.requires.0)).rows

pub returns-then-target-g : goal.returns-then-target-g
returns-then-target-g c = spot_low _ _ _ _ _ _ (pixel _ _ _ _ _ c.args.at.now.in_page _ c.requires.0) _ c.if-target-g.true

pub entry_of-requires : goal.entry_of-requires
entry_of-requires c =
    let at = pixel _ _ _ _ _ c.args.at.now.in_page _ c.requires.0 in
    omega (arith, to_below _ _ _ _ _ _ at _ c.if-target-g.false, at.tabled.profile_long)

pub overflow_add-reached : goal.overflow_add-reached
overflow_add-reached c =
    let at = pixel _ _ _ _ _ c.args.at.now.in_page _ c.requires.0 in
    record { fits = omega (arith, c.entry_of.ensures, to_small _ _ _ _ _ _ at _ c.if-target-g.false, at.column, at.sized.width_most, at.sized.height_most) }

pub entry_of-from-requires : goal.entry_of-from-requires
entry_of-from-requires c =
    let at = pixel _ _ _ _ _ c.args.at.now.in_page _ c.requires.0 in
    omega (arith, (row _ _ _ _ _ _ at).step_below, at.tabled.profile_long)

pub returns-then-reached-from : goal.returns-then-reached-from
returns-then-reached-from c =
    let at = pixel _ _ _ _ _ c.args.at.now.in_page _ c.requires.0 in
    let e₁ = c.entry_of.ensures in
    let e₂ = c.entry_of-from.ensures in
    spot_left _ _ _ _ _ _ at _ c.if-target-g.false (omega (arith, e₁, e₂, c.if-reached-from.true))

pub returns-then-column-g : goal.returns-then-column-g
returns-then-column-g c =
    let at = pixel _ _ _ _ _ c.args.at.now.in_page _ c.requires.0 in
    let e₁ = c.entry_of.ensures in
    let e₂ = c.entry_of-from.ensures in
    spot_right _ _ _ _ _ _ at _ c.if-target-g.false (omega (arith, e₁, e₂, c.if-reached-from.false)) (omega (arith, e₁, e₂, c.if-column-g.true))

pub returns : goal.returns
returns c =
    let at = pixel _ _ _ _ _ c.args.at.now.in_page _ c.requires.0 in
    let e₁ = c.entry_of.ensures in
    let e₂ = c.entry_of-from.ensures in
    ap₂ (λ (a b : ℕ). (target _ _ _ _ _ _ at c.args.to) * c.args.at.now.tables.grid.width + (c.args.x + a - b)) e₁ e₂
    ∙ spot_in _ _ _ _ _ _ at _ c.if-target-g.false (omega (arith, e₁, e₂, c.if-reached-from.false)) (omega (arith, e₁, e₂, c.if-column-g.false))
