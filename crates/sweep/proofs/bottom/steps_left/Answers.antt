-- `sweep::bottom::steps_left` meets its contract: a quotient, rounded down. Assumes nothing.
use Prim.Native.Nat.{◌-◌, ◌/◌, ◌<◌}
use native.Mathlib.Nat.{suc-mul, div-add-mod', mod-lt}
use native.Mathlib.Omega.{arith}
use Rattle.geometry.proofs.Laws.{period_forward}
use Rattle.runs.specs.Grid.{Sized}
use Rattle.runs.specs.declared.Grid.{Grid}
use Rattle.sweep.proofs.bottom.steps_left.Goals as goal

some : (g : Grid) → Sized g → 0 < g.period
some g sized = omega (arith, period_forward g.line sized.sound, sized.period_is)

pub nonzero_div-result : goal.nonzero_div-result
nonzero_div-result c = some _ c.requires.0

pub returns : goal.returns
returns c =
    let g = c.args.g in
    let left = g.height - 1 - c.args.row in
    let whole = div-add-mod' left g.period in
    let part = mod-lt left (some _ c.requires.0) in
    (omega (arith, c.requires.1), omega (arith, c.requires.1, suc-mul (left / g.period) g.period))
